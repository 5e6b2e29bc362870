-- The ring of unheard bytes as bytes come and are heard.
use Rattle.std.proofs.Common.{◌≡◌, ℕ, suc, ◌+◌, ◌-◌, ◌%◌, ◌<◌, ◌≤◌, min, cond, ltb, List, [], ◌∷◌, ◌++◌, map, length, get_or, set, sym, ap, ◌∙◌, inl, arith}
use Rattle.std.specs.List.{range_with_len}
use Rattle.std.proofs.lemmas.List.FromFn.{length-map-range_with_len, map-range_with_len_more}
use Rattle.std.proofs.lemmas.List.{get_or-set_same, get_or-set_other, length-set}
use Rattle.std.proofs.lemmas.Bool.{lt-ltb, le-ltb, cond-true, cond-false}
use Rattle.octets.specs.Bytes.{put, bytes_of}
use Rattle.octets.proofs.Numbers.{length-bytes_of}
use Rattle.octets.proofs.Puts.{length-put, get_or-put_above}
use Rattle.model.specs.Tick.{first_heard}
use Rattle.tasks.specs.Unheard.{head_in, count_in, place_of, heard_in}
use Rattle.octets.proofs.Written.{at-put, at-put_other}
use Rattle.tasks.proofs.Written.{map_same, map_next, at-set_below}

pub length-heard : (r : List ℕ) → length (heard_in r) ≡ count_in r
unfolding heard_in
length-heard r = length-map-range_with_len _ 0 (count_in r)

-- Two bytes are at two places.
pub places_differ : (h k m : ℕ) → k < m → m < 1024 → place_of h k ≡ place_of h m → ⊥
unfolding place_of
places_differ h k m l u e = omega arith

pub place_next : (h k : ℕ) → place_of ((h + 1) % 1024) k ≡ place_of h (k + 1)
unfolding place_of
place_next h k = omega arith

pub place_bounds : (h k : ℕ) → (1024 ≤ place_of h k) × (place_of h k < 2048)
unfolding place_of
place_bounds h k = (omega arith, omega arith)

-- None is left.
pub heard_none : (r : List ℕ) → count_in r ≡ 0 → heard_in r ≡ []
unfolding heard_in
heard_none r e = ap (λ n. map (λ k. get_or r (place_of (head_in r) k) 0) (range_with_len 0 n)) e

-- One more byte, behind the others.
pub heard_more :
    (r r' : List ℕ) (b : ℕ) → head_in r' ≡ head_in r → count_in r' ≡ count_in r + 1
    → ((k : ℕ) → k < count_in r → get_or r' (place_of (head_in r) k) 0 ≡ get_or r (place_of (head_in r) k) 0)
    → get_or r' (place_of (head_in r) (count_in r)) 0 ≡ b → heard_in r' ≡ heard_in r ++ b ∷ []
unfolding heard_in
heard_more r r' b eh ec same here =
    ap (λ h. map (λ k. get_or r' (place_of h k) 0) (range_with_len 0 (count_in r'))) eh
    ∙ ap (λ n. map (λ k. get_or r' (place_of (head_in r) k) 0) (range_with_len 0 n)) ec
    ∙ map-range_with_len_more (λ k. get_or r' (place_of (head_in r) k) 0) 0 (count_in r) (count_in r) (omega arith)
    ∙ ap (λ xs. xs ++ get_or r' (place_of (head_in r) (count_in r)) 0 ∷ []) (map_same (count_in r) _ _ 0 (λ k l u. same k (omega arith)))
    ∙ ap (λ x. heard_in r ++ x ∷ []) here

-- The first byte, and the others.
pub heard_first :
    (r r' : List ℕ) → 0 < count_in r → head_in r' ≡ (head_in r + 1) % 1024 → count_in r' ≡ count_in r - 1
    → ((k : ℕ) → get_or r' (place_of (head_in r) k) 0 ≡ get_or r (place_of (head_in r) k) 0)
    → heard_in r ≡ get_or r (place_of (head_in r) 0) 0 ∷ heard_in r'
unfolding heard_in
heard_first r r' some eh ec same =
    let one : count_in r ≡ suc (count_in r - 1) = omega arith in
    ap (λ n. map (λ k. get_or r (place_of (head_in r) k) 0) (range_with_len 0 n)) one
    ∙ ap (λ xs. get_or r (place_of (head_in r) 0) 0 ∷ xs)
    (sym (map_next (count_in r - 1) (λ k. get_or r (place_of (head_in r) k) 0) 0)
    ∙ map_same (count_in r - 1) _ (λ k. get_or r' (place_of ((head_in r + 1) % 1024) k) 0) 0
    (λ k l u. sym (same (k + 1)) ∙ ap (λ p. get_or r' p 0) (sym (place_next (head_in r) k)))
    ∙ ap (λ h. map (λ k. get_or r' (place_of h k) 0) (range_with_len 0 (count_in r - 1))) (sym eh)
    ∙ ap (λ n. map (λ k. get_or r' (place_of (head_in r') k) 0) (range_with_len 0 n)) (sym ec))

pub full : (r : List ℕ) (b : ℕ) → count_in r ≡ 1024 → heard_in r ≡ cond (ltb (length (heard_in r)) 1024) (heard_in r ++ b ∷ []) (heard_in r)
full r b e = sym (cond-false _ _ _ (le-ltb (length (heard_in r)) 1024 (omega (arith, length-heard r))))

not_full :
    (r r' : List ℕ) (b : ℕ) → count_in r < 1024 → heard_in r' ≡ heard_in r ++ b ∷ []
    → heard_in r' ≡ cond (ltb (length (heard_in r)) 1024) (heard_in r ++ b ∷ []) (heard_in r)
not_full r r' b h e = e ∙ sym (cond-true _ _ _ (lt-ltb (length (heard_in r)) 1024 (omega (arith, length-heard r))))

-- The head, the count and the bytes after a write of one of them.
head_count_put : (r : List ℕ) (v : ℕ) → length r ≡ 4096 → head_in (put r 4 (bytes_of 4 v)) ≡ head_in r
unfolding head_in
head_count_put r v e =
    let l = length-bytes_of 4 v in
    ap (λ n. n % 1024) (at-put_other 4 r (bytes_of 4 v) 4 0 (omega arith) (inl (omega arith)))

count_count_put : (r : List ℕ) (v : ℕ) → length r ≡ 4096 → v ≤ 1024 → count_in (put r 4 (bytes_of 4 v)) ≡ v
unfolding count_in
count_count_put r v e h = ap (λ n. min n 1024) (at-put 4 r 4 v (omega arith) (omega arith)) ∙ omega arith

head_head_put : (r : List ℕ) (v : ℕ) → length r ≡ 4096 → v < 1024 → head_in (put r 0 (bytes_of 4 v)) ≡ v
unfolding head_in
head_head_put r v e h = ap (λ n. n % 1024) (at-put 4 r 0 v (omega arith) (omega arith)) ∙ omega arith

byte_put : (r : List ℕ) (k v h j : ℕ) → length r ≡ 4096 → k ≤ 4 → get_or (put r k (bytes_of 4 v)) (place_of h j) 0 ≡ get_or r (place_of h j) 0
byte_put r k v h j e le =
    let l = length-bytes_of 4 v in
    let low = (place_bounds h j).0 in
    get_or-put_above r (bytes_of 4 v) k (place_of h j) 0 (omega arith) (omega arith)

length_4_put : (r : List ℕ) (k v : ℕ) → length r ≡ 4096 → k ≤ 4 → length (put r k (bytes_of 4 v)) ≡ 4096
length_4_put r k v e le = let l = length-bytes_of 4 v in length-put r (bytes_of 4 v) k (omega arith) ∙ e

head_set : (r : List ℕ) (k v : ℕ) → 1024 ≤ k → k < length r → head_in (set r k v) ≡ head_in r
unfolding head_in
head_set r k v low h = ap (λ m. m % 1024) (at-set_below 4 r k v 0 h (omega arith))

pub cleared : (r : List ℕ) → length r ≡ 4096 → heard_in (put r 4 (bytes_of 4 0)) ≡ []
cleared r e = heard_none (put r 4 (bytes_of 4 0)) (count_count_put r 0 e (omega arith))

pub arrived :
    (r : List ℕ) (p n b : ℕ) → length r ≡ 4096 → n ≡ count_in r → n < 1024 → p ≡ place_of (head_in r) n
    → heard_in (put (set r p b) 4 (bytes_of 4 (n + 1))) ≡ cond (ltb (length (heard_in r)) 1024) (heard_in r ++ b ∷ []) (heard_in r)
arrived r p n b e en less ep =
    let bounds = place_bounds (head_in r) n in
    let long : length (set r p b) ≡ 4096 = length-set r p b ∙ e in
    let within : p < length r = omega arith in
    not_full r (put (set r p b) 4 (bytes_of 4 (n + 1))) b (omega arith)
    (heard_more r (put (set r p b) 4 (bytes_of 4 (n + 1))) b
    (head_count_put (set r p b) (n + 1) long ∙ head_set r p b (omega arith) within)
    (count_count_put (set r p b) (n + 1) long (omega arith) ∙ ap (λ m. m + 1) en)
    (λ k l. byte_put (set r p b) 4 (n + 1) (head_in r) k long (omega arith)
    ∙ get_or-set_other r p (place_of (head_in r) k) b 0 (λ q. places_differ (head_in r) k n (omega arith) less (q ∙ ep)))
    (byte_put (set r p b) 4 (n + 1) (head_in r) (count_in r) long (omega arith)
    ∙ ap (λ m. get_or (set r p b) m 0) (ap (place_of (head_in r)) (sym en) ∙ sym ep)
    ∙ get_or-set_same r p b 0 within))

-- After the first byte is heard.
pub heard_one :
    (r : List ℕ) (h n : ℕ) → length r ≡ 4096 → h ≡ head_in r → n ≡ count_in r → 0 < n → n ≤ 1024
    → heard_in r ≡ get_or r (place_of (head_in r) 0) 0 ∷ heard_in (put (put r 0 (bytes_of 4 ((h + 1) % 1024))) 4 (bytes_of 4 (n - 1)))
heard_one r h n e eh en some most =
    let r₁ = put r 0 (bytes_of 4 ((h + 1) % 1024)) in
    let r₂ = put r₁ 4 (bytes_of 4 (n - 1)) in
    let long : length r₁ ≡ 4096 = length_4_put r 0 ((h + 1) % 1024) e (omega arith) in
    heard_first r r₂ (omega arith)
    (head_count_put r₁ (n - 1) long ∙ head_head_put r ((h + 1) % 1024) e (omega arith) ∙ ap (λ m. (m + 1) % 1024) eh)
    (count_count_put r₁ (n - 1) long (omega arith) ∙ ap (λ m. m - 1) en)
    (λ k. byte_put r₁ 4 (n - 1) (head_in r) k long (omega arith) ∙ byte_put r 0 ((h + 1) % 1024) (head_in r) k e (omega arith))

pub first_is : (bs : List ℕ) (b : ℕ) (rest : List ℕ) → bs ≡ b ∷ rest → first_heard bs ≡ b
unfolding first_heard
first_is bs b rest e = ap first_heard e

pub first_none : (bs : List ℕ) → bs ≡ [] → first_heard bs ≡ 4294967295
unfolding first_heard
first_none bs e = ap first_heard e

pub place_first : (h n : ℕ) → n ≡ h → n < 1024 → place_of h 0 ≡ 1024 + n
unfolding place_of
place_first h n e l = omega arith

-- The byte that is heard.
pub heard_byte :
    (r : List ℕ) (h n : ℕ) → length r ≡ 4096 → h ≡ head_in r → n ≡ count_in r → 0 < n → n ≤ 1024 → h < 1024
    → first_heard (heard_in r) ≡ get_or r (1024 + h) 0
heard_byte r h n e eh en some most lt =
    first_is (heard_in r) _ _ (heard_one r h n e eh en some most) ∙ ap (λ p. get_or r p 0) (place_first (head_in r) h eh lt)
