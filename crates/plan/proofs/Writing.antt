-- Bytes written one behind the other.
use Rattle.std.proofs.Common.{◌≡◌, ℕ, ◌+◌, ◌<◌, ◌≤◌, List, [], ◌∷◌, ◌++◌, length, get_or, take, drop, sym, ap, ◌∙◌, arith}
use Rattle.std.specs.List.{flat_map}
use Rattle.std.proofs.lemmas.Grind.{flat_map-append}
use Rattle.std.proofs.lemmas.List.{append_assoc, take_at, drop_at, drop-drop, length-append, length-take-le, take-append-drop, take_more, take_all, append-nil}
use Rattle.std.proofs.lemmas.List.Folds.{length-flat_map-take}
use Rattle.octets.specs.Bytes.{put, bytes_of}
use Rattle.octets.proofs.Numbers.{length-bytes_of}
use Rattle.octets.proofs.Puts.{length-put}
use Rattle.plan.specs.declared.head.Header.{Header}
use Rattle.plan.specs.declared.head.PartHead.{PartHead}
use Rattle.plan.specs.Layout.{header}
use Rattle.plan.specs.Drafts.{head_bytes}
use Rattle.plan.specs.Writes.{Puts}

-- A write right behind another.
put_more : (xs ys zs : List ℕ) (k j : ℕ) → k ≤ length xs → j ≡ k + length ys → put (put xs k ys) j zs ≡ put xs k (ys ++ zs)
unfolding put
put_more xs ys zs k j h e =
    let d = drop (k + length ys) xs in
    let a = take k xs ++ (ys ++ d) in
    let whole : a ≡ (take k xs ++ ys) ++ d = sym (append_assoc (take k xs) ys d) in
    let n : length (take k xs ++ ys) ≡ j = omega (arith, length-append (take k xs) ys, length-take-le k xs h) in
    let front : take j a ≡ take k xs ++ ys = ap (take j) whole ∙ take_at (take k xs ++ ys) d j n in
    let back : drop (j + length zs) a ≡ drop (k + length (ys ++ zs)) xs =
    sym (drop-drop (length zs) j a)
    ∙ ap (drop (length zs)) (ap (drop j) whole ∙ drop_at (take k xs ++ ys) d j n)
    ∙ drop-drop (length zs) (k + length ys) xs
    ∙ ap (λ m. drop m xs) (omega (arith, length-append ys zs)) in
    ap (λ u. u ++ (zs ++ drop (j + length zs) a)) front
    ∙ ap (λ u. (take k xs ++ ys) ++ (zs ++ u)) back
    ∙ append_assoc (take k xs) ys (zs ++ drop (k + length (ys ++ zs)) xs)
    ∙ ap (λ u. take k xs ++ u) (sym (append_assoc ys zs (drop (k + length (ys ++ zs)) xs)))

put-none : (xs : List ℕ) (k : ℕ) → put xs k [] ≡ xs
unfolding put
put-none xs k = let e : k + 0 ≡ k = omega arith in ap (λ m. take k xs ++ drop m xs) e ∙ take-append-drop k xs

-- Nothing was written yet.
pub puts_none : (xs : List ℕ) (k : ℕ) → k ≤ length xs → Puts xs xs k k []
puts_none xs k h = record { room = omega arith; after = sym (put-none xs k); behind = omega arith }

-- One thing, and another behind it.
pub puts_both : {xs ys zs a b : List ℕ} {k j i : ℕ} → Puts xs ys k j a → Puts ys zs j i b → Puts xs zs k i (a ++ b)
puts_both {xs} {ys} {zs} {a} {b} {k} {j} {i} p q =
    record {
      room = omega (arith, p.room, q.room, p.behind, length-append a b, ap length p.after, length-put xs a k p.room);
      after =
          q.after ∙ ap (λ o. put o j b) p.after ∙ put_more xs a b k j (omega (arith, p.room)) p.behind;
      behind = omega (arith, p.behind, q.behind, length-append a b);
    }

pub puts_same : {xs ys a b : List ℕ} {k j : ℕ} → a ≡ b → Puts xs ys k j a → Puts xs ys k j b
puts_same {xs} {ys} {a} {b} {k} {j} e p =
    record {
      room = omega (arith, p.room, ap length e);
      after = p.after ∙ ap (put xs k) e;
      behind = omega (arith, p.behind, ap length e);
    }

-- One thing more of a row.
module _ {X Y : Type 0} (f : X → List Y) (l : List X) (i : ℕ) (d : X) (h : i < length l) where
  flat_more : flat_map f (take (i + 1) l) ≡ flat_map f (take i l) ++ f (get_or l i d)
  flat_more =
      let x = get_or l i d in
      ap (flat_map f) (take_more l i d h)
      ∙ flat_map-append f (take i l) (x ∷ [])
      ∙ ap (λ r. flat_map f (take i l) ++ r) (append-nil (f x))

  pub length_more : length (flat_map f (take (i + 1) l)) ≡ length (flat_map f (take i l)) + length (f (get_or l i d))
  length_more = ap length flat_more ∙ length-append (flat_map f (take i l)) (f (get_or l i d))

-- There is room for it, and then it stands there.
module _ {X : Type 0} (f : X → List ℕ) (l : List X) (i : ℕ) (d : X) (h : i < length l) where
  pub room_more :
      {xs ys : List ℕ} {k j : ℕ} → Puts xs ys k j (flat_map f (take i l)) → k + length (flat_map f l) ≤ length xs → length ys ≡ length xs → j + length (f (get_or l i d)) ≤ length ys
  room_more p r e = omega (arith, length-flat_map-take f l i d h, p.behind)

  pub puts_more : {xs ys zs : List ℕ} {k j n : ℕ} → Puts xs ys k j (flat_map f (take i l)) → Puts ys zs j n (f (get_or l i d)) → Puts xs zs k n (flat_map f (take (i + 1) l))
  puts_more p q = puts_same (sym (flat_more f l i d h)) (puts_both p q)

pub puts_all : {X : Type 0} (f : X → List ℕ) (l : List X) (i : ℕ) → length l ≤ i → {xs ys : List ℕ} {k j : ℕ} → Puts xs ys k j (flat_map f (take i l)) → Puts xs ys k j (flat_map f l)
puts_all f l i h p = puts_same (ap (flat_map f) (take_all i l h)) p

-- How long bytes are that are made of others.
pub ruleset lengths = (length-append, length-bytes_of)

pub head_bytes_lem : (p : PartHead) → length (head_bytes p) ≡ 3
head_bytes_lem p = omega (arith, length-append (bytes_of 2 p.pages) (bytes_of 1 p.tasks), length-bytes_of 2 p.pages, length-bytes_of 1 p.tasks)

pub header_bytes : (h : Header) → length (header.write h) ≡ 10
header_bytes h =
    omega (
      arith,
      length-append (bytes_of 4 0x454d4954) (bytes_of 2 h.system ++ (bytes_of 1 h.partitions ++ (bytes_of 2 h.windows ++ bytes_of 1 h.channels))),
      length-append (bytes_of 2 h.system) (bytes_of 1 h.partitions ++ (bytes_of 2 h.windows ++ bytes_of 1 h.channels)),
      length-append (bytes_of 1 h.partitions) (bytes_of 2 h.windows ++ bytes_of 1 h.channels),
      length-append (bytes_of 2 h.windows) (bytes_of 1 h.channels),
      length-bytes_of 4 0x454d4954,
      length-bytes_of 2 h.system,
      length-bytes_of 1 h.partitions,
      length-bytes_of 2 h.windows,
      length-bytes_of 1 h.channels,
    )
