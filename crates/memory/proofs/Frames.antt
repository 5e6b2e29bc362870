-- A block's control frames and memory: what is read in them, and what a write to the block leaves of them.
use Rattle.std.proofs.Common.{◌≡◌, ℕ, ◌+◌, ◌-◌, ◌*◌, ◌/◌, ◌<◌, ◌≤◌, ◌⊎◌, List, ◌++◌, length, take, drop, sym, subst, ap, ◌∙◌, inl, inr, ⊎_elim, arith, rules}
use Rattle.std.specs.List.{between}
use Rattle.std.proofs.lemmas.List.{places, same_lists, drop-drop, length-take-le, length-drop, take-append-drop, take-take}
use Rattle.std.proofs.lemmas.Slice.{between_is}
use Rattle.octets.specs.Bytes.{put, number, at}
use Rattle.octets.proofs.Puts.{put_is, length-put, between_put, between-put_other}
use Rattle.octets.proofs.Written.{at-put_other}
use borrow.Rule.Slice.PartMut.{put_mid}
use Rattle.std.proofs.lemmas.Bool.{cases_lt, cases_eq}
use Rattle.memory.specs.Frames.{control_of, memory_of, frame, pages_of, leaf_entry, Mapped, OnlyFrame}

-- ---- writes to a row, in front of a place and behind it

pub take_put : (b ys : List ℕ) (n k : ℕ) → n ≤ k → k + length ys ≤ length b → take n (put b k ys) ≡ take n b
unfolding put
take_put b ys n k h l = same_lists _ _ (search (rules, places)) (λ i d m. grind (arith, places))

pub drop-put : (b ys : List ℕ) (n k : ℕ) → k + length ys ≤ n → k + length ys ≤ length b → drop n (put b k ys) ≡ drop n b
unfolding put
drop-put b ys n k h l = same_lists _ _ (search (rules, places)) (λ i d m. grind (arith, places))

pub take-put_in : (b ys : List ℕ) (n k : ℕ) → k + length ys ≤ n → n ≤ length b → take n (put b k ys) ≡ put (take n b) k ys
unfolding put
take-put_in b ys n k h l = same_lists _ _ (search (rules, places)) (λ i d m. grind (arith, places))

pub drop-put_in : (b ys : List ℕ) (n k : ℕ) → n + k + length ys ≤ length b → drop n (put b (n + k) ys) ≡ put (drop n b) k ys
unfolding put
drop-put_in b ys n k h = same_lists _ _ (search (rules, places)) (λ i d m. grind (arith, places))

-- ---- the two parts

pub length-memory : (b : List ℕ) → length (memory_of b) ≡ length b - 32768
unfolding memory_of
length-memory b = length-drop 32768 b

pub length_control : (b : List ℕ) → 32768 ≤ length b → length (control_of b) ≡ 32768
unfolding control_of
length_control b h = length-take-le 32768 b h

pub parts_whole : (b : List ℕ) → control_of b ++ memory_of b ≡ b
unfolding control_of memory_of
parts_whole b = take-append-drop 32768 b

pub at-memory : (m : ℕ) (b : List ℕ) (k : ℕ) → at m b (32768 + k) ≡ at m (memory_of b) k
unfolding at memory_of
at-memory m b k =
    let e : 32768 + k + m - (32768 + k) ≡ k + m - k = omega arith in
    ap (λ n. number (take n (drop (32768 + k) b))) e ∙ ap (λ xs. number (take (k + m - k) xs)) (sym (drop-drop k 32768 b))

between-take : (b : List ℕ) (n j m : ℕ) → j + m ≤ n → between j (j + m) (take n b) ≡ between j (j + m) b
between-take b n j m h =
    between_is (take n b) j (j + m) ∙ ap (drop j) (take-take (j + m) n b h) ∙ sym (between_is b j (j + m))

pub at_take : (m n : ℕ) (b : List ℕ) (k : ℕ) → k + m ≤ n → at m (take n b) k ≡ at m b k
unfolding at
at_take m n b k h = ap number (between-take b n k m h)

pub at_control : (m : ℕ) (b : List ℕ) (k : ℕ) → k + m ≤ 32768 → at m (control_of b) k ≡ at m b k
unfolding control_of
at_control m b k h = at_take m 32768 b k h

-- ---- a write

pub memory_put_below : (b ys : List ℕ) (k : ℕ) → k + length ys ≤ 32768 → k + length ys ≤ length b → memory_of (put b k ys) ≡ memory_of b
unfolding memory_of
memory_put_below b ys k h l = drop-put b ys 32768 k h l

pub memory_put_above : (b ys : List ℕ) (k : ℕ) → 32768 + k + length ys ≤ length b → memory_of (put b (32768 + k) ys) ≡ put (memory_of b) k ys
unfolding memory_of
memory_put_above b ys k h = drop-put_in b ys 32768 k h

pub control_put_below : (b ys : List ℕ) (k : ℕ) → k + length ys ≤ 32768 → 32768 ≤ length b → control_of (put b k ys) ≡ put (control_of b) k ys
unfolding control_of
control_put_below b ys k h l = take-put_in b ys 32768 k h l

pub control_put_above : (b ys : List ℕ) (k : ℕ) → 32768 ≤ k → k + length ys ≤ length b → control_of (put b k ys) ≡ control_of b
unfolding control_of
control_put_above b ys k h l = take_put b ys 32768 k h l

-- ---- frames

pub length-frame : (n : ℕ) (b : List ℕ) → 4096 * n + 4096 ≤ length b → length (frame n b) ≡ 4096
unfolding frame
length-frame n b h = search (rules, places)

pub at-frame : (m n : ℕ) (b : List ℕ) (k : ℕ) → k + m ≤ 4096 → at m (frame n b) k ≡ at m b (4096 * n + k)
unfolding frame at
at-frame m n b k h =
    let e : 4096 * n + 4096 - 4096 * n ≡ 4096 = omega arith in
    let f : k + m - k ≡ 4096 * n + k + m - (4096 * n + k) = omega arith in
    ap (λ w. number (between k (k + m) (take w (drop (4096 * n) b)))) e
    ∙ ap number (between-take (drop (4096 * n) b) 4096 k m h)
    ∙ ap (λ xs. number (take (k + m - k) xs)) (drop-drop k (4096 * n) b)
    ∙ ap (λ w. number (take w (drop (4096 * n + k) b))) f

-- A write outside a frame leaves it; one inside it is a write to it; and a whole frame is what was written.
pub frame_put_other :
    (n : ℕ) (b ys : List ℕ) (k : ℕ) → k + length ys ≤ length b → (k + length ys ≤ 4096 * n) ⊎ (4096 * n + 4096 ≤ k) → frame n (put b k ys) ≡ frame n b
unfolding frame
frame_put_other n b ys k h o =
    ⊎_elim
    (λ (before : k + length ys ≤ 4096 * n). between-put_other b ys k (4096 * n) 4096 h (inr before))
    (λ (behind : 4096 * n + 4096 ≤ k). between-put_other b ys k (4096 * n) 4096 h (inl behind))
    o

pub frame_put_in : (n : ℕ) (b ys : List ℕ) (k : ℕ) → k + length ys ≤ 4096 → 4096 * n + 4096 ≤ length b → frame n (put b (4096 * n + k) ys) ≡ put (frame n b) k ys
unfolding frame
frame_put_in n b ys k h l =
    let e : 4096 * n + 4096 - 4096 * n ≡ 4096 = omega arith in
    ap (λ w. take w (drop (4096 * n) (put b (4096 * n + k) ys))) e
    ∙ ap (take 4096) (drop-put_in b ys (4096 * n) k (omega arith))
    ∙ take-put_in (drop (4096 * n) b) ys 4096 k h (simp length-drop (omega arith))
    ∙ ap (λ w. put (take w (drop (4096 * n) b)) k ys) (sym e)

pub frame_put-whole : (n : ℕ) (b ys : List ℕ) → length ys ≡ 4096 → 4096 * n + 4096 ≤ length b → frame n (put b (4096 * n) ys) ≡ ys
unfolding frame
frame_put-whole n b ys e l = between_put b ys (4096 * n) 4096 (omega arith) e

-- The first eight frames are the control frames.
pub frame_control : (n : ℕ) (b : List ℕ) → n < 8 → frame n (control_of b) ≡ frame n b
unfolding frame control_of
frame_control n b h = between-take b 32768 (4096 * n) 4096 (omega arith)

pub frame_kept : (n : ℕ) (a b : List ℕ) → n < 8 → control_of b ≡ control_of a → frame n b ≡ frame n a
frame_kept n a b h e = sym (frame_control n b h) ∙ ap (frame n) e ∙ frame_control n a h

-- The control frames behind the tables, where the bytes behind the tables are the same.
pub frame_behind : (n : ℕ) (a b : List ℕ) → 2 ≤ n → n < 8 → between 8192 32768 b ≡ between 8192 32768 a → frame n b ≡ frame n a
unfolding frame
frame_behind n a b h l e = cut b ∙ ap (between (4096 * n - 8192) (4096 * n - 8192 + 4096)) e ∙ sym (cut a)
  where
    cut : (xs : List ℕ) → between (4096 * n) (4096 * n + 4096) xs ≡ between (4096 * n - 8192) (4096 * n - 8192 + 4096) (take 24576 (drop 8192 xs))
    cut xs =
        let k : 8192 + (4096 * n - 8192) ≡ 4096 * n = omega arith in
        let w : 4096 * n + 4096 - 4096 * n ≡ 4096 * n - 8192 + 4096 - (4096 * n - 8192) = omega arith in
        ap (λ i. take i (drop (4096 * n) xs)) w
        ∙ ap (λ i. take (4096 * n - 8192 + 4096 - (4096 * n - 8192)) (drop i xs)) (sym k)
        ∙ ap (take (4096 * n - 8192 + 4096 - (4096 * n - 8192))) (sym (drop-drop (4096 * n - 8192) 8192 xs))
        ∙ sym (between-take (drop 8192 xs) 24576 (4096 * n - 8192) 4096 (omega arith))

-- ---- tables

pub pages_kept : (a b : List ℕ) → length b ≡ length a → pages_of b ≡ pages_of a
unfolding pages_of
pages_kept a b e = ap (λ n. (n - 32768) / 4096) e

-- The tables are as they were where their bytes are.
pub mapped_from :
    (a b : List ℕ) → length b ≡ length a → ((k : ℕ) → k + 4 ≤ 8192 → at 4 b k ≡ at 4 a k) → Mapped a → Mapped b
mapped_from a b e same m =
    let p = pages_kept a b e in
    record {
      whole = omega (arith, m.whole, p);
      few = omega (arith, m.few, p);
      root = λ r h. same (4 * r) (omega arith) ∙ m.root r h;
      leaf = λ i h. same (4096 + 4 * i) (omega arith) ∙ m.leaf i h ∙ ap (λ n. leaf_entry n i) (sym p);
    }

pub mapped_kept : (a b : List ℕ) → control_of b ≡ control_of a → length b ≡ length a → Mapped a → Mapped b
mapped_kept a b e l m = mapped_from a b l (λ k h. sym (at_control 4 b k (omega arith)) ∙ ap (λ xs. at 4 xs k) e ∙ at_control 4 a k (omega arith)) m

-- A write behind the tables keeps them.
pub mapped_put : (b ys : List ℕ) (k : ℕ) → 8192 ≤ k → k + length ys ≤ length b → Mapped b → Mapped (put b k ys)
mapped_put b ys k h l m = mapped_from b (put b k ys) (length-put b ys k l) (λ j i. at-put_other 4 b ys k j l (inl (omega arith))) m

-- ---- a control frame behind the tables that was lent, and came back as f

module _ (n : ℕ) (b f : List ℕ) (k : ℕ) (m : Mapped b) (low : 2 ≤ n) (high : n < 8) (e : length f ≡ 4096) (whole : k ≡ 4096) where
  lent_room : 4096 * n + length f ≤ length b
  lent_room = omega (arith, m.whole)

  lent_is : put_mid (4096 * n) k b f ≡ put b (4096 * n) f
  lent_is = put_is b f (4096 * n) k (e ∙ sym whole)

  pub lent_mapped : Mapped (put_mid (4096 * n) k b f)
  lent_mapped = subst Mapped (sym lent_is) (mapped_put b f (4096 * n) (omega arith) lent_room m)

  pub lent_frame : frame n (put_mid (4096 * n) k b f) ≡ f
  lent_frame = ap (frame n) lent_is ∙ frame_put-whole n b f e (omega (arith, lent_room))

  pub lent_only : OnlyFrame n b (put_mid (4096 * n) k b f)
  lent_only =
      record {
        memory = ap memory_of lent_is ∙ memory_put_below b f (4096 * n) (omega arith) lent_room;
        others =
            λ j h ne.
            ap (frame j) lent_is
            ∙ frame_put_other j b f (4096 * n) lent_room
            (⊎_elim (λ (q : j ≡ n). absurd (ne q))
            (λ (p : j ≡ n → ⊥). ⊎_elim (λ (l : j < n). inr (omega arith)) (λ (g : n ≤ j). inl (omega arith)) (cases_lt j n))
            (cases_eq j n));
      }
