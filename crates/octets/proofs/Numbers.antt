-- Numbers in bytes, one byte at a time, and back.
use Rattle.std.proofs.Common.{◌≡◌, ℕ, zero, suc, ◌+◌, ◌-◌, ◌*◌, ◌/◌, ◌%◌, ◌^◌, ◌<◌, ◌≤◌, List, [], ◌∷◌, ◌++◌, length, get_or, take, drop, sym, refl, ap, ◌∙◌, mul_assoc, mul_comm, pow-suc, lit<, arith}
use Rattle.std.proofs.Math.Arith.{mod-mul}
use native.Mathlib.Nat.{mod-add-div, div-div-eq-div-mul}
use Rattle.std.proofs.lemmas.List.{drop_more, take_all}
use Rattle.std.proofs.lemmas.Slice.{between_from_start}
use Rattle.octets.specs.Bytes.{number, bytes_of, at}

pub at_none : (xs : List ℕ) (k : ℕ) → at 0 xs k ≡ 0
unfolding at number
at_none xs k = let e : k + 0 - k ≡ 0 = omega arith in ap (λ m. number (take m (drop k xs))) e

-- One byte and the rest.
pub at_more : (n : ℕ) (xs : List ℕ) (k j : ℕ) → k + 1 ≡ j → k < length xs → at (suc n) xs k ≡ get_or xs k 0 + 256 * at n xs j
unfolding at number
at_more n xs k j e h =
    let all : k + suc n - k ≡ suc n = omega arith in
    let rest : n ≡ j + n - j = omega arith in
    ap (λ m. number (take m (drop k xs))) all
    ∙ ap (λ ys. number (take (suc n) ys)) (drop_more xs k 0 h)
    ∙ ap (λ m. get_or xs k 0 + 256 * number (take m (drop (k + 1) xs))) rest
    ∙ ap (λ i. get_or xs k 0 + 256 * number (take (j + n - j) (drop i xs))) e

pub length-bytes_of : (n v : ℕ) → length (bytes_of n v) ≡ n
unfolding bytes_of
length-bytes_of zero v = refl
length-bytes_of (suc n) v = ap suc (length-bytes_of n (v / 256))

pub number-bytes_of : (n v : ℕ) → v < 256 ^ n → number (bytes_of n v) ≡ v
unfolding bytes_of number
number-bytes_of zero v h = omega arith
number-bytes_of (suc n) v h =
    ap (λ m. v % 256 + 256 * m) (number-bytes_of n (v / 256) (omega (arith, mod-add-div v 256, pow-suc 256 n))) ∙ mod-add-div v 256

pub bytes_of-number : (bs : List ℕ) → ((k : ℕ) → get_or bs k 0 < 256) → bytes_of (length bs) (number bs) ≡ bs
unfolding bytes_of number
bytes_of-number [] h = refl
bytes_of-number (b ∷ bs) h =
    let low : (b + 256 * number bs) % 256 ≡ b = omega (arith, h 0) in
    let high : (b + 256 * number bs) / 256 ≡ number bs = omega (arith, h 0) in
    ap (λ x. x ∷ bytes_of (length bs) ((b + 256 * number bs) / 256)) low
    ∙ ap (λ x. b ∷ bytes_of (length bs) x) high
    ∙ ap (λ xs. b ∷ xs) (bytes_of-number bs (λ k. h (suc k)))

power : (n : ℕ) → 0 < 256 ^ n
power zero = lit< tt
power (suc n) = omega (arith, pow-suc 256 n, power n)

-- The low bytes of a number are those of its remainder.
pub bytes_of-mod : (n v : ℕ) → bytes_of n (v % 256 ^ n) ≡ bytes_of n v
unfolding bytes_of
bytes_of-mod zero v = refl
bytes_of-mod (suc n) v =
    let w : v % 256 ^ suc n ≡ v / 256 % 256 ^ n * 256 + v % 256 =
    ap (λ m. v % m) (pow-suc 256 n) ∙ mod-mul v (power n) (lit< tt) in
    let low : v % 256 ^ suc n % 256 ≡ v % 256 = omega arith in
    let high : v % 256 ^ suc n / 256 ≡ v / 256 % 256 ^ n = omega arith in
    ap (λ x. x ∷ bytes_of n (v % 256 ^ suc n / 256)) low ∙ ap (λ x. v % 256 ∷ x) (ap (bytes_of n) high ∙ bytes_of-mod n (v / 256))

-- So many bytes from place k on, each with its weight.
abbrev pub weighed : ℕ → List ℕ → ℕ → ℕ
weighed zero xs k = 0
weighed (suc n) xs k = get_or xs k 0 + 256 * weighed n xs (k + 1)

pub at_weighed : (n : ℕ) (xs : List ℕ) (k : ℕ) → k + n ≤ length xs → at n xs k ≡ weighed n xs k
at_weighed zero xs k h = at_none xs k
at_weighed (suc n) xs k h = omega (arith, at_more n xs k (k + 1) refl (omega arith), at_weighed n xs (k + 1) (omega arith))

pub number_weighed : (n : ℕ) (bs : List ℕ) → length bs ≡ n → number bs ≡ weighed n bs 0
unfolding at
number_weighed n bs e =
    ap number (sym (between_from_start bs (0 + n) ∙ take_all (0 + n) bs (omega arith))) ∙ at_weighed n bs 0 (omega arith)

-- The bytes of a number as the machine writes them.
pub bytes_of_2 : (v : ℕ) → v % 256 ∷ v / 256 % 256 ∷ [] ≡ bytes_of 2 v
unfolding bytes_of
bytes_of_2 v = refl

pub bytes_of_4 : (v : ℕ) → v % 256 ∷ v / 256 % 256 ∷ v / 65536 % 256 ∷ v / 16777216 % 256 ∷ [] ≡ bytes_of 4 v
unfolding bytes_of
bytes_of_4 v = simp div-div-eq-div-mul

pub bytes_of_8 :
    (v : ℕ) → v % 256 ∷ v / 256 % 256 ∷ v / 65536 % 256 ∷ v / 16777216 % 256 ∷ v / 4294967296 % 256 ∷ v / 1099511627776 % 256 ∷ v / 281474976710656 % 256 ∷ v / 72057594037927936 % 256 ∷ [] ≡ bytes_of 8 v
unfolding bytes_of
bytes_of_8 v = simp div-div-eq-div-mul

-- The bytes of a number are those of its low part and of its high part.
pub bytes_of_join : (m n lo hi : ℕ) → lo < 256 ^ m → bytes_of (m + n) (lo + 256 ^ m * hi) ≡ bytes_of m lo ++ bytes_of n hi
unfolding bytes_of
bytes_of_join zero n lo hi h =
    let e : 0 + n ≡ n = omega arith in
    let v : lo + 1 * hi ≡ hi = omega arith in
    ap (λ k. bytes_of k (lo + 1 * hi)) e ∙ ap (bytes_of n) v
bytes_of_join (suc m) n lo hi h =
    let e : suc m + n ≡ suc (m + n) = omega arith in
    let p : 256 ^ suc m * hi ≡ 256 * (256 ^ m * hi) = ap (λ x. x * hi) (pow-suc 256 m ∙ mul_comm (256 ^ m) 256) ∙ mul_assoc 256 (256 ^ m) hi in
    let low : (lo + 256 ^ suc m * hi) % 256 ≡ lo % 256 = omega arith in
    let high : (lo + 256 ^ suc m * hi) / 256 ≡ lo / 256 + 256 ^ m * hi = omega arith in
    let small : lo / 256 < 256 ^ m = omega (arith, pow-suc 256 m) in
    ap (λ k. bytes_of k (lo + 256 ^ suc m * hi)) e
    ∙ ap (λ x. x ∷ bytes_of (m + n) ((lo + 256 ^ suc m * hi) / 256)) low
    ∙ ap (λ x. lo % 256 ∷ bytes_of (m + n) x) high
    ∙ ap (λ xs. lo % 256 ∷ xs) (bytes_of_join m n (lo / 256) hi small)

pub bytes_of_halves : (v : ℕ) → bytes_of 8 v ≡ bytes_of 4 (v % 4294967296) ++ bytes_of 4 (v / 4294967296)
bytes_of_halves v =
    let e : v ≡ v % 4294967296 + 4294967296 * (v / 4294967296) = omega arith in
    ap (bytes_of 8) e ∙ bytes_of_join 4 4 (v % 4294967296) (v / 4294967296) (omega arith)
