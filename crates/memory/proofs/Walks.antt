-- What the entries of the tables say of an address, and what a walk says of an access.
use Rattle.std.proofs.Common.{◌≡◌, ℕ, ◌+◌, ◌*◌, ◌/◌, ◌%◌, ◌^◌, ◌<◌, ◌≤◌, cond, ltb, leb, List, length, Some, None, Option, sym, subst, ap, ◌∙◌, ⊎_elim, arith}
use Rattle.std.proofs.lemmas.Bool.{cond-true, cond-false, cases_lt, lt-ltb, le-ltb, le-leb, and_left, and_from, eq-eqb, ne_eqb}
use Rattle.std.proofs.lemmas.Bool.Decides.{nat_tests}
use Rattle.decode.specs.declared.instruction.LoadKind.{LoadKind}
use Rattle.decode.specs.declared.instruction.LoadKind.TheVariants.{Lb, Lh, Lw, Lbu, Lhu}
use Rattle.decode.specs.declared.instruction.StoreKind.{StoreKind}
use Rattle.decode.specs.declared.instruction.StoreKind.TheVariants.{Sb, Sh, Sw}
use Rattle.octets.specs.Bytes.{at, bytes_of, put}
use Rattle.octets.proofs.Numbers.{length-bytes_of}
use Rattle.cpu.specs.Effects.{inside}
use Rattle.cpu.specs.Meaning.{load_bytes, store_bytes}
use Rattle.memory.specs.Frames.{memory_of, control_of, pages_of, root_entry, leaf_entry, Mapped}
use Rattle.memory.proofs.Frames.{length-memory, at-memory, memory_put_above, control_put_above, mapped_put}

-- An entry of a table, and whether there is one.
root_none : (r : ℕ) → root_entry r ≡ 0 → 0 < r
unfolding root_entry
root_none r e = grind (arith, nat_tests)

root_one : (r : ℕ) → (root_entry r ≡ 0 → ⊥) → (r ≡ 0) × (root_entry r ≡ 1)
unfolding root_entry
root_one r h = (grind (arith, nat_tests), grind (arith, nat_tests))

leaf_none : (n i : ℕ) → leaf_entry n i ≡ 0 → n ≤ i
unfolding leaf_entry
leaf_none n i e = grind (arith, nat_tests)

leaf_page : (n i : ℕ) → (leaf_entry n i ≡ 0 → ⊥) → (i < n) × (leaf_entry n i ≡ 8 + i)
unfolding leaf_entry
leaf_page n i h = (grind (arith, nat_tests), grind (arith, nat_tests))

pub memory_pages : (b : List ℕ) → Mapped b → length (memory_of b) ≡ 4096 * pages_of b
memory_pages b m = omega (arith, length-memory b, m.whole)

-- A walk that ends at the root entry, at the leaf entry, and in a page.
module _ (b : List ℕ) (m : Mapped b) (a : ℕ) (small : a < 4294967296) where
  root_is : at 4 b (4096 * 0 + 4 * (a / 4194304)) ≡ root_entry (a / 4194304)
  root_is = let e : 4096 * 0 + 4 * (a / 4194304) ≡ 4 * (a / 4194304) = omega arith in ap (at 4 b) e ∙ m.root (a / 4194304) (omega arith)

  pub no_leaf : at 4 b (4096 * 0 + 4 * (a / 4194304)) ≡ 0 → length (memory_of b) ≤ a
  no_leaf e = omega (arith, root_none (a / 4194304) (sym root_is ∙ e), memory_pages b m, m.few)

  module _ (leaf : ℕ) (found : (leaf ≡ at 4 b (4096 * 0 + 4 * (a / 4194304))) × (0 < leaf) × (leaf < 2 ^ 32)) where
    pub leaf_frame : (leaf ≡ 1) × (a < 4194304)
    leaf_frame = let w = root_one (a / 4194304) (λ e. omega (arith, found.0 ∙ root_is, e)) in (found.0 ∙ root_is ∙ w.1, omega (arith, w.0))

    page_is : at 4 b (4096 * leaf + 4 * (a / 4096 % 1024)) ≡ leaf_entry (pages_of b) (a / 4096 % 1024)
    page_is = ap (λ n. at 4 b (4096 * n + 4 * (a / 4096 % 1024))) leaf_frame.0 ∙ m.leaf (a / 4096 % 1024) (omega arith)

    pub no_page : at 4 b (4096 * leaf + 4 * (a / 4096 % 1024)) ≡ 0 → length (memory_of b) ≤ a
    no_page e = omega (arith, leaf_none (pages_of b) (a / 4096 % 1024) (sym page_is ∙ e), leaf_frame.1, memory_pages b m)

    pub in_page :
        (page : ℕ) → (page ≡ at 4 b (4096 * leaf + 4 * (a / 4096 % 1024))) × (0 < page) × (page < 2 ^ 32)
        → (a < length (memory_of b)) × (4096 * page + a % 4096 ≡ 32768 + a)
    in_page page next =
        let w = leaf_page (pages_of b) (a / 4096 % 1024) (λ e. omega (arith, next.0 ∙ page_is, e)) in
        (omega (arith, w.0, leaf_frame.1, memory_pages b m), omega (arith, w.1, next.0 ∙ page_is, leaf_frame.1))

-- What a walk to an address in memory, and to one outside it, gives.
module _ (a n : ℕ) where
  pub walk_in : (k : ℕ) → a < n → k ≡ 32768 + a → Some k ≡ cond (ltb a n) (Some (32768 + a)) None
  walk_in k h e = ap Some e ∙ sym (cond-true _ _ _ (lt-ltb a n h))

  pub walk_out : n ≤ a → None ≡ cond (ltb a n) (Some (32768 + a)) None
  walk_out h = sym (cond-false _ _ _ (le-ltb a n h))

  pub walked_in : (k : ℕ) → Some k ≡ cond (ltb a n) (Some (32768 + a)) None → (a < n) × (k ≡ 32768 + a)
  walked_in k e =
      ⊎_elim
      (λ (h : a < n). let s : Some k ≡ Some (32768 + a) = e ∙ cond-true _ _ _ (lt-ltb a n h) in (h, (cc)))
      (λ (h : n ≤ a). let s : Some k ≡ None = e ∙ cond-false _ _ _ (le-ltb a n h) in let z : ◌≡◌ {A = ℕ} 0 1 = cc in absurd (omega arith))
      (cases_lt a n)

  pub walked_out : None ≡ cond (ltb a n) (Some (32768 + a)) None → n ≤ a
  walked_out e =
      ⊎_elim
      (λ (h : a < n). let s : None ≡ Some (32768 + a) = e ∙ cond-true _ _ _ (lt-ltb a n h) in let z : ◌≡◌ {A = ℕ} 0 1 = cc in absurd (omega arith))
      (λ (h : n ≤ a). h)
      (cases_lt a n)

-- An access at a multiple of its size that begins in memory lies in it, since memory is whole pages.
pub load_fits : (kind : LoadKind) (a p : ℕ) → a % load_bytes kind ≡ 0 → a < 4096 * p → a + load_bytes kind ≤ 4096 * p
load_fits Lb a p e h = omega arith
load_fits Lh a p e h = omega arith
load_fits Lw a p e h = omega arith
load_fits Lbu a p e h = omega arith
load_fits Lhu a p e h = omega arith

pub store_fits : (kind : StoreKind) (a p : ℕ) → a % store_bytes kind ≡ 0 → a < 4096 * p → a + store_bytes kind ≤ 4096 * p
store_fits Sb a p e h = omega arith
store_fits Sh a p e h = omega arith
store_fits Sw a p e h = omega arith

-- What a walk found in a block that is read, it found in the block.
pub found_in :
    (b b' : List ℕ) (a k : ℕ) → b ≡ b' → Some k ≡ cond (ltb a (length (memory_of b))) (Some (32768 + a)) None
    → Some k ≡ cond (ltb a (length (memory_of b'))) (Some (32768 + a)) None
found_in b b' a k e h = h ∙ ap (λ xs. cond (ltb a (length (memory_of xs))) (Some (32768 + a)) None) e

-- Where an access that a walk found lies in memory, and in the block.
module _ (b : List ℕ) (m : Mapped b) (a k : ℕ) (found : Some k ≡ cond (ltb a (length (memory_of b))) (Some (32768 + a)) None) where
  pub load_there : (kind : LoadKind) → a % load_bytes kind ≡ 0 → (a + load_bytes kind ≤ length (memory_of b)) × (k ≡ 32768 + a) × (k + load_bytes kind ≤ length b)
  load_there kind e =
      let w = walked_in a (length (memory_of b)) k found in
      let p = memory_pages b m in
      let fits = load_fits kind a (pages_of b) e (omega (arith, w.0, p)) in
      (omega (arith, fits, p), w.1, omega (arith, fits, m.whole, w.1))

  pub store_there : (kind : StoreKind) → a % store_bytes kind ≡ 0 → (a + store_bytes kind ≤ length (memory_of b)) × (k ≡ 32768 + a) × (k + store_bytes kind ≤ length b)
  store_there kind e =
      let w = walked_in a (length (memory_of b)) k found in
      let p = memory_pages b m in
      let fits = store_fits kind a (pages_of b) e (omega (arith, w.0, p)) in
      (omega (arith, fits, p), w.1, omega (arith, fits, m.whole, w.1))

-- The same of a word, at a multiple of four.
pub word_there :
    (b : List ℕ) (m : Mapped b) (a k : ℕ) → Some k ≡ cond (ltb a (length (memory_of b))) (Some (32768 + a)) None → a % 4 ≡ 0
    → (a + 4 ≤ length (memory_of b)) × (k ≡ 32768 + a) × (k + 4 ≤ length b)
word_there b m a k found e = load_there b m a k found Lw e

-- What is read at that place, as it stands in memory.
pub read_there : (n : ℕ) (b : List ℕ) (a k w : ℕ) → k ≡ 32768 + a → w ≡ at n b k → w ≡ at n (memory_of b) a
read_there n b a k w e v = v ∙ ap (at n b) e ∙ at-memory n b a

-- What a store at an address leaves, where the walk was in the block as it is read.
module _ (b r b' : List ℕ) (m : Mapped b) (kind : StoreKind) (a k v : ℕ) (same : r ≡ b)
    (walked : Some k ≡ cond (ltb a (length (memory_of r))) (Some (32768 + a)) None) (aligned : a % store_bytes kind ≡ 0) where
  abbrev ys : List ℕ
  ys = bytes_of (store_bytes kind) v

  there : (a + store_bytes kind ≤ length (memory_of b)) × (k ≡ 32768 + a) × (k + store_bytes kind ≤ length b)
  there = store_there b m a k (found_in r b a k same walked) kind aligned

  room : k + length ys ≤ length b
  room = omega (arith, there.2, length-bytes_of (store_bytes kind) v)

  pub store_fits_there : k + store_bytes kind ≤ length b
  store_fits_there = there.2

  pub stored_there : ◌≡◌ {A = Option (Unit {0})} (Some tt) (cond (leb (a + store_bytes kind) (length (memory_of b))) (Some tt) None)
  stored_there = sym (cond-true _ _ _ (le-leb _ _ there.0))

  module _ (after : b' ≡ put b k ys) where
    pub stored_memory : memory_of b' ≡ cond (leb (a + store_bytes kind) (length (memory_of b))) (put (memory_of b) a ys) (memory_of b)
    stored_memory =
        ap memory_of after
        ∙ ap (λ i. memory_of (put b i ys)) there.1
        ∙ memory_put_above b ys a (omega (arith, room, there.1))
        ∙ sym (cond-true _ _ _ (le-leb _ _ there.0))

    pub stored_control : control_of b' ≡ control_of b
    stored_control = ap control_of after ∙ control_put_above b ys k (omega (arith, there.1)) room

    pub stored_mapped : Mapped b'
    stored_mapped = subst Mapped (sym after) (mapped_put b ys k (omega (arith, there.1)) room m)

-- A word that is fetched.
module _ (m : List ℕ) (pc : ℕ) where
  pub fetch_odd : (pc % 4 ≡ 0 → ⊥) → None ≡ cond (inside 4 pc (length m)) (Some (at 4 m pc)) None
  fetch_odd h = sym (cond-false _ _ _ (and_left _ _ (ne_eqb _ _ h)))

  pub fetch_word : (w : ℕ) → pc % 4 ≡ 0 → pc + 4 ≤ length m → w ≡ at 4 m pc → Some w ≡ cond (inside 4 pc (length m)) (Some (at 4 m pc)) None
  fetch_word w e h f = ap Some f ∙ sym (cond-true _ _ _ (and_from _ _ (eq-eqb _ _ e) (le-leb _ _ h)))
