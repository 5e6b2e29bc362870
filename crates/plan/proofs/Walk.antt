-- The plan's parts front to back, each by where it ends.
use Rattle.std.proofs.Common.{◌≡◌, ℕ, ◌+◌, ◌-◌, ◌*◌, ◌<◌, ◌≤◌, Bool, true, false, cond, eqb, leb, List, [], ◌∷◌, length, sym, refl, ap, ◌∙◌, ⊎_elim, arith}
use Rattle.std.specs.List.{between}
use Rattle.std.proofs.lemmas.Bool.{cases_lt, le-leb, lt-leb, cond-true, cond-false}
use Rattle.codec.specs.Codec.{Outcome, got, refused, follow, map_out, read_each, each, times, chain, whole}
use Rattle.codec.proofs.Outcomes.{map-got, map-refused}
use Rattle.codec.proofs.Steps.{map-follow, follow_map, follow_same, follow_chain, times_step, times_stop, times_done}
use Rattle.plan.specs.declared.head.Header.{Header}
use Rattle.plan.specs.Layout.{Part, header, window, channel, partition, memory, body, to_image, image, read_plan}
use Rattle.plan.specs.Ends.{seen, pages_of, fits}

-- One partition more.
pub parts_step :
    (n i acc : ℕ) (xs : List ℕ) (k pages e : ℕ) → i < n → got pages e ≡ map_out (λ q. q.pages) (partition.read xs k)
    → map_out (λ ps. (acc + pages) + pages_of ps) ((times (n - (i + 1)) partition).read xs e) ≡ map_out (λ ps. acc + pages_of ps) ((times (n - i) partition).read xs k)
parts_step n i acc xs k pages e h r =
    let q = map-got (λ p. p.pages) (partition.read xs k) pages e (sym r) in
    let p = q.0 in
    let same : (t : ℕ) → acc + (p.pages + t) ≡ (acc + pages) + t = λ t. omega (arith, q.2) in
    sym
    (times_step n i partition (λ ps. acc + pages_of ps) xs k e p h q.1
    ∙ λ j. map_out (λ ps. same (pages_of ps) j) ((times (n - (i + 1)) partition).read xs e))

pub parts_stop :
    (n i acc : ℕ) (xs : List ℕ) (k m p : ℕ) → i < n → refused m p ≡ map_out (λ q. q.pages) (partition.read xs k)
    → refused m p ≡ map_out (λ ps. acc + pages_of ps) ((times (n - i) partition).read xs k)
parts_stop n i acc xs k m p h r =
    sym (times_stop n i partition (λ ps. acc + pages_of ps) xs k m p h (map-refused (λ q. q.pages) (partition.read xs k) m p (sym r)))

pub parts_start :
    (n : ℕ) (xs : List ℕ) (k : ℕ) → map_out (λ ps. 0 + pages_of ps) ((times (n - 0) partition).read xs k) ≡ map_out pages_of ((times n partition).read xs k)
parts_start n xs k =
    let m : n - 0 ≡ n = omega arith in
    let none : (t : ℕ) → 0 + t ≡ t = λ t. omega arith in
    ap (λ m. map_out (λ ps. 0 + pages_of ps) ((times m partition).read xs k)) m ∙ λ j. map_out (λ ps. none (pages_of ps) j) ((times n partition).read xs k)

pub parts_done :
    (n i acc : ℕ) (xs : List ℕ) (k : ℕ) → n ≤ i → got acc k ≡ map_out (λ ps. acc + pages_of ps) ((times (n - i) partition).read xs k)
parts_done n i acc xs k h =
    let none : acc + 0 ≡ acc = omega arith in
    sym (times_done n i partition (λ ps. acc + pages_of ps) xs k h ∙ ap (λ a. got a k) none)

-- The bytes end here.
abbrev ending : List ℕ → ℕ → Outcome (Unit {0})
ending xs j = cond (eqb j (length xs)) (got tt j) (refused 1 j)

abbrev fits_to : List ℕ → ℕ → Outcome (Unit {0})
fits_to xs e = cond (leb e (length xs)) (ending xs e) (refused 1 (length xs))

-- The memories, one behind the other, are so many bytes behind the parts.
pub memories_fit :
    (ps : List Part) (xs : List ℕ) (k : ℕ) → k ≤ length xs → follow (read_each memory ps xs k) (λ ms i. ending xs i) ≡ fits xs k (4096 * pages_of ps)
memories_fit [] xs k h =
    let e : k ≡ k + 4096 * 0 = omega arith in
    sym (cond-true (leb k (length xs)) (ending xs k) (refused 1 (length xs)) (le-leb k (length xs) h)) ∙ ap (fits_to xs) e
memories_fit (p ∷ ps) xs k h =
    let e = k + 4096 * p.pages in
    let t = pages_of ps in
    let all : e + 4096 * t ≡ k + 4096 * (p.pages + t) = omega arith in
    ⊎_elim
    (λ (lt : length xs < e).
    ap (λ o. follow (follow o (λ a j. map_out (λ l. a ∷ l) (read_each memory ps xs j))) (λ ms i. ending xs i))
    (cond-false (leb e (length xs)) (got (between k e xs) e) (refused 1 (length xs)) (lt-leb e (length xs) lt))
    ∙ sym
    (cond-false (leb (k + 4096 * (p.pages + t)) (length xs)) (ending xs (k + 4096 * (p.pages + t))) (refused 1 (length xs))
    (lt-leb (k + 4096 * (p.pages + t)) (length xs) (omega arith))))
    (λ (le : e ≤ length xs).
    ap (λ o. follow (follow o (λ a j. map_out (λ l. a ∷ l) (read_each memory ps xs j))) (λ ms i. ending xs i))
    (cond-true (leb e (length xs)) (got (between k e xs) e) (refused 1 (length xs)) (le-leb e (length xs) le))
    ∙ follow_map (λ l. between k e xs ∷ l) (read_each memory ps xs e) (ending xs)
    ∙ memories_fit ps xs e le
    ∙ ap (fits_to xs) all)
    (cases_lt (length xs) e)

-- What comes behind each part.
abbrev pub after_parts : List ℕ → List Part → ℕ → Outcome (Unit {0})
after_parts xs ps j = follow ((each memory ps).read xs j) (λ ms i. ending xs i)

abbrev pub after_channels : List ℕ → Header → ℕ → Outcome (Unit {0})
after_channels xs h j = follow ((times h.partitions partition).read xs j) (after_parts xs)

abbrev pub after_windows : List ℕ → Header → ℕ → Outcome (Unit {0})
after_windows xs h j = follow (seen ((times h.channels (channel h.partitions)).read xs j)) (λ u i. after_channels xs h i)

abbrev pub after_header : List ℕ → Header → ℕ → Outcome (Unit {0})
after_header xs h j = follow (seen ((times h.windows (window h.system h.partitions)).read xs j)) (λ u i. after_windows xs h i)

seen_ending : {A : Type 0} (t : Bool) (a : A) (j : ℕ) → seen (cond t (got a j) (refused 1 j)) ≡ cond t (got tt j) (refused 1 j)
seen_ending true a j = refl
seen_ending false a j = refl

body_walk : (xs : List ℕ) (h : Header) (j : ℕ) → follow ((body h).read xs j) (λ b i. ending xs i) ≡ after_header xs h j
body_walk xs h j =
    let W = times h.windows (window h.system h.partitions) in
    let C = times h.channels (channel h.partitions) in
    let P = times h.partitions partition in
    follow_chain (W.read xs j) (λ ws i. follow (C.read xs i) (λ cs l. map_out (λ b. (cs, b)) ((chain P (each memory)).read xs l))) (ending xs)
    ∙ follow_same (W.read xs j) _ (λ ws i. after_windows xs h i)
    (λ ws i.
    follow_chain (C.read xs i) (λ cs l. (chain P (each memory)).read xs l) (ending xs)
    ∙ follow_same (C.read xs i) _ (λ cs l. after_channels xs h l) (λ cs l. follow_chain (P.read xs l) (λ ps m. (each memory ps).read xs m) (ending xs))
    ∙ sym (follow_map (λ cs. tt) (C.read xs i) (after_channels xs h)))
    ∙ sym (follow_map (λ ws. tt) (W.read xs j) (after_windows xs h))

pub walk_is : (xs : List ℕ) → follow (header.read xs 0) (after_header xs) ≡ seen (read_plan xs)
unfolding read_plan whole image
walk_is xs =
    sym
    (map-follow (λ i. tt) (map_out to_image ((chain header body).read xs 0)) (λ a j. cond (eqb j (length xs)) (got a j) (refused 1 j))
    ∙ follow_same (map_out to_image ((chain header body).read xs 0)) _ (λ a j. ending xs j) (λ a j. seen_ending (eqb j (length xs)) a j)
    ∙ follow_map to_image ((chain header body).read xs 0) (ending xs)
    ∙ follow_chain (header.read xs 0) (λ h j. (body h).read xs j) (ending xs)
    ∙ follow_same (header.read xs 0) _ (after_header xs) (body_walk xs))

-- As far as the parts were read, what comes of the plan is what comes of the rest; and a refusal on the way is the plan's.
module _ (xs : List ℕ) where
  pub stop_header : (m p : ℕ) → refused m p ≡ header.read xs 0 → refused m p ≡ seen (read_plan xs)
  stop_header m p e = ap (λ o. follow o (after_header xs)) e ∙ walk_is xs

  module _ (h : Header) (k : ℕ) (eh : got h k ≡ header.read xs 0) (ys : List ℕ) (ey : ys ≡ xs) where
    abbrev Windows : List ℕ → Outcome (Unit {0})
    Windows l = seen ((times h.windows (window h.system h.partitions)).read l k)

    past_header : after_header xs h k ≡ seen (read_plan xs)
    past_header = ap (λ o. follow o (after_header xs)) eh ∙ walk_is xs

    pub stop_windows : (m p : ℕ) → refused m p ≡ Windows ys → refused m p ≡ seen (read_plan xs)
    stop_windows m p e = ap (λ o. follow o (λ u i. after_windows xs h i)) (e ∙ ap Windows ey) ∙ past_header

    module _ (j : ℕ) (ew : got tt j ≡ Windows ys) (zs : List ℕ) (ez : zs ≡ xs) where
      abbrev Channels : List ℕ → Outcome (Unit {0})
      Channels l = seen ((times h.channels (channel h.partitions)).read l j)

      past_windows : after_windows xs h j ≡ seen (read_plan xs)
      past_windows = ap (λ o. follow o (λ u i. after_windows xs h i)) (ew ∙ ap Windows ey) ∙ past_header

      pub stop_channels : (m p : ℕ) → refused m p ≡ Channels zs → refused m p ≡ seen (read_plan xs)
      stop_channels m p e = ap (λ o. follow o (λ u i. after_channels xs h i)) (e ∙ ap Channels ez) ∙ past_windows

      module _ (i : ℕ) (ec : got tt i ≡ Channels zs) (us : List ℕ) (eu : us ≡ xs) where
        abbrev Parts : List ℕ → Outcome ℕ
        Parts l = map_out pages_of ((times h.partitions partition).read l i)

        past_channels : after_channels xs h i ≡ seen (read_plan xs)
        past_channels = ap (λ o. follow o (λ u l. after_channels xs h l)) (ec ∙ ap Channels ez) ∙ past_windows

        pub stop_parts : (m p : ℕ) → refused m p ≡ Parts us → refused m p ≡ seen (read_plan xs)
        stop_parts m p e =
            let r = map-refused pages_of ((times h.partitions partition).read xs i) m p (sym (e ∙ ap Parts eu)) in
            ap (λ o. follow o (after_parts xs)) (sym r) ∙ past_channels

        pub past_parts : (pages e : ℕ) → e ≤ length xs → got pages e ≡ Parts us → fits xs e (4096 * pages) ≡ seen (read_plan xs)
        past_parts pages e le r =
            let q = map-got pages_of ((times h.partitions partition).read xs i) pages e (sym (r ∙ ap Parts eu)) in
            sym (memories_fit q.0 xs e le ∙ ap (λ n. fits xs e (4096 * n)) q.2)
            ∙ ap (λ o. follow o (after_parts xs)) (sym q.1)
            ∙ past_channels
