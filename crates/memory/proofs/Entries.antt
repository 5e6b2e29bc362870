-- A table that is written entry by entry, and tables that were written one after the other.
use Rattle.std.proofs.Common.{◌≡◌, ℕ, ◌+◌, ◌-◌, ◌*◌, ◌/◌, ◌<◌, ◌≤◌, List, ◌++◌, length, take, drop, length-append, sym, subst, ap, ◌∙◌, inl, arith, below_more}
use Rattle.std.specs.List.{between}
use Rattle.std.proofs.lemmas.List.{length-drop, length-take-le, drop-drop}
use Rattle.std.proofs.lemmas.Slice.{drop-append-drop}
use Rattle.std.proofs.Math.Seq.{take-append_seam}
use borrow.Rule.Slice.PartMut.{put_mid}
use Rattle.octets.specs.Bytes.{put, bytes_of, at}
use Rattle.octets.proofs.Numbers.{length-bytes_of}
use Rattle.octets.proofs.Puts.{put_is, length-put}
use Rattle.octets.proofs.Written.{at-put, at-put_other}
use Rattle.memory.specs.Frames.{memory_of, frame, pages_of, root_entry, leaf_entry, Mapped}
use Rattle.memory.proofs.Frames.{at_take, drop-put, at-frame, frame_put-whole, pages_kept}

-- One more entry of a table, behind those of which P holds.
pub entries_more :
    (t t' : List ℕ) (i v : ℕ) (P : ℕ → ℕ → Type 0) → t' ≡ put t (4 * i) (bytes_of 4 v) → 4 * i + 4 ≤ length t → v < 4294967296 → P i v
    → ((j : ℕ) → j < i → P j (at 4 t (4 * j))) → (j : ℕ) → j < i + 1 → P j (at 4 t' (4 * j))
entries_more t t' i v P after room small here done =
    below_more (λ j. P j (at 4 t' (4 * j))) i
    (λ j h.
    subst (P j)
    (sym (ap (λ xs. at 4 xs (4 * j)) after ∙ at-put_other 4 t (bytes_of 4 v) (4 * i) (4 * j) (omega (arith, length-bytes_of 4 v)) (inl (omega (arith, length-bytes_of 4 v)))))
    (done j h))
    (subst (P i) (sym (ap (λ xs. at 4 xs (4 * i)) after ∙ at-put 4 t (4 * i) v room small)) here)

-- The same of a row whose entries stand at any places that rise.
module _ (b b' : List ℕ) (k v : ℕ) (after : b' ≡ put b k (bytes_of 4 v)) (room : k + 4 ≤ length b) where
  pub entries_more_at :
      (place entry : ℕ → ℕ) (i : ℕ) → place i ≡ k → ((j : ℕ) → j < i → place j + 4 ≤ place i) → v < 4294967296 → v ≡ entry i
      → ((j : ℕ) → j < i → at 4 b (place j) ≡ entry j) → (j : ℕ) → j < i + 1 → at 4 b' (place j) ≡ entry j
  entries_more_at place entry i here order small e done =
      below_more (λ j. at 4 b' (place j) ≡ entry j) i
      (λ j h.
      ap (λ xs. at 4 xs (place j)) after
      ∙ at-put_other 4 b (bytes_of 4 v) k (place j) (omega (arith, length-bytes_of 4 v, room)) (inl (omega (arith, order j h, here)))
      ∙ done j h)
      (ap (λ xs. at 4 xs (place i)) after ∙ ap (at 4 (put b k (bytes_of 4 v))) here ∙ at-put 4 b k v room small ∙ e)

deeper : (n m : ℕ) (a b : List ℕ) → drop n b ≡ drop n a → drop (n + m) b ≡ drop (n + m) a
deeper n m a b e = sym (drop-drop m n b) ∙ ap (drop m) e ∙ drop-drop m n a

-- A block whose first two frames were lent, and came back as the tables.
module _ (a root : List ℕ) (lr : length root ≡ 4096) (whole : length a ≡ 32768 + 4096 * pages_of a) where
  abbrev rooted : List ℕ
  rooted = root ++ drop 4096 a

  long_rooted : length rooted ≡ length a
  long_rooted = simp (length-append, length-drop) (omega arith)

  front_rooted : take 4096 rooted ≡ root
  front_rooted = ap (λ n. take n rooted) (sym lr) ∙ take-append_seam root (drop 4096 a)

  -- The part that is lent second is a whole frame.
  pub second_long : length (take 4096 (drop 4096 rooted)) ≡ 4096
  second_long = length-take-le 4096 (drop 4096 rooted) (omega (arith, length-drop 4096 rooted, long_rooted))

  module _ (leaf : List ℕ) (ll : length leaf ≡ 4096) where
    abbrev both : List ℕ
    both = put_mid 4096 4096 rooted leaf

    both_is : both ≡ put rooted 4096 leaf
    both_is = put_is rooted leaf 4096 4096 ll

    long_both : length both ≡ length a
    long_both = ap length both_is ∙ length-put rooted leaf 4096 (omega (arith, long_rooted)) ∙ long_rooted

    behind : drop 8192 both ≡ drop 8192 a
    behind =
        ap (drop 8192) both_is
        ∙ drop-put rooted leaf 8192 4096 (omega arith) (omega (arith, long_rooted))
        ∙ drop-append-drop 4096 a root 8192 (omega arith) lr

    pub tables_memory : memory_of both ≡ memory_of a
    unfolding memory_of
    tables_memory = deeper 8192 24576 a both behind

    pub tables_behind : between 8192 32768 both ≡ between 8192 32768 a
    tables_behind = ap (take 24576) behind

    root_same : (k : ℕ) → k + 4 ≤ 4096 → at 4 both k ≡ at 4 root k
    root_same k h =
        ap (λ xs. at 4 xs k) both_is
        ∙ at-put_other 4 rooted leaf 4096 k (omega (arith, long_rooted)) (inl h)
        ∙ sym (at_take 4 4096 rooted k h)
        ∙ ap (λ xs. at 4 xs k) front_rooted

    leaf_same : (k : ℕ) → k + 4 ≤ 4096 → at 4 both (4096 + k) ≡ at 4 leaf k
    leaf_same k h =
        sym (at-frame 4 1 both k h)
        ∙ ap (λ xs. at 4 (frame 1 xs) k) both_is
        ∙ ap (λ xs. at 4 xs k) (frame_put-whole 1 rooted leaf ll (omega (arith, long_rooted)))

    pub tables_mapped :
        pages_of a ≤ 1024 → ((r : ℕ) → r < 1024 → at 4 root (4 * r) ≡ root_entry r)
        → ((i : ℕ) → i < 1024 → at 4 leaf (4 * i) ≡ leaf_entry (pages_of a) i) → Mapped both
    tables_mapped few roots leaves =
        let p = pages_kept a both long_both in
        record {
          whole = omega (arith, p, long_both);
          few = omega (arith, p);
          root = λ r h. root_same (4 * r) (omega arith) ∙ roots r h;
          leaf = λ i h. leaf_same (4 * i) (omega arith) ∙ leaves i h ∙ ap (λ n. leaf_entry n i) (sym p);
        }

-- The root table was written to any row a, which gave b, and then the leaf table, which gave c.
module _ (a b c : List ℕ) (lb : length b ≡ length a) (lc : length c ≡ length b) (behind-root : drop 4096 b ≡ drop 4096 a) (behind-leaf : drop 8192 c ≡ drop 8192 b) where
  pub tables_mapped_any :
      length a ≡ 32768 + 4096 * pages_of a → pages_of a ≤ 1024 → ((r : ℕ) → r < 1024 → at 4 b (4 * r) ≡ root_entry r) → take 4096 c ≡ take 4096 b
      → ((i : ℕ) → i < 1024 → at 4 c (4096 + 4 * i) ≡ leaf_entry ((length a - 32768) / 4096) i) → Mapped c
  unfolding pages_of
  tables_mapped_any whole few root front leaf =
      let l : length a ≡ length c = sym (lc ∙ lb) in
      record {
        whole = omega arith;
        few = omega arith;
        root = λ r h. sym (at_take 4 4096 c (4 * r) (omega arith)) ∙ ap (λ xs. at 4 xs (4 * r)) front ∙ at_take 4 4096 b (4 * r) (omega arith) ∙ root r h;
        leaf = λ i h. leaf i h ∙ ap (λ n. leaf_entry ((n - 32768) / 4096) i) l;
      }
