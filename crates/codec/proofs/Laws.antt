-- One law for each way to make a kind.
use Rattle.std.proofs.Common.{◌≡◌, ℕ, ◌+◌, ◌-◌, ◌^◌, ◌<◌, ◌≤◌, cond, eqb, leb, List, [], ◌∷◌, length, take, drop, sym, refl, ap, ◌∙◌, subst, arith}
use Rattle.std.proofs.lemmas.Bool.{le-leb, leb-true, and_from, and_parts, cond-true, eq-eqb, eqb-true}
use Rattle.std.proofs.lemmas.List.{length-append, length-take, length-drop, take_all}
use Rattle.octets.specs.Bytes.{at, bytes_of}
use Rattle.octets.specs.Bytes as byte
use Rattle.octets.proofs.Numbers.{length-bytes_of, number-bytes_of, bytes_of-number}
use Rattle.codec.specs.Codec.{got, refused, follow, map_out, Codec, Bytes, number, raw, chain, ◌▸◌, each, read_each, write_each, ProperEach, times, named, whole}
use Rattle.codec.specs.Lawful.{Stands, Read, Lawful}
use Rattle.codec.proofs.Stand.{stands_within, stands_left, stands_right, stands_both, bytes_part}
use Rattle.codec.proofs.Outcomes.{got_value, got_place, follow_got, map-got, cond_got}

-- A number that stands somewhere is read as it.
at-stands : (n v : ℕ) (xs : List ℕ) (k : ℕ) → v < 256 ^ n → Stands (bytes_of n v) xs k → at n xs k ≡ v
unfolding at
at-stands n v xs k h s =
    let e : k + n - k ≡ length (bytes_of n v) = omega (arith, length-bytes_of n v) in
    ap (λ m. byte.number (take m (drop k xs))) e ∙ ap byte.number s ∙ number-bytes_of n v h

-- The bytes at a place are those of the number there.
stands_at : (n : ℕ) (xs : List ℕ) (k : ℕ) → Bytes xs → k + n ≤ length xs → Stands (bytes_of n (at n xs k)) xs k
unfolding at
stands_at n xs k b h =
    let e : k + n - k ≡ n = omega arith in
    let l : length (take n (drop k xs)) ≡ n = omega (arith, length-take n (drop k xs), length-drop k xs) in
    ap (λ m. take m (drop k xs)) (length-bytes_of n (byte.number (take (k + n - k) (drop k xs))))
    ∙ sym (bytes_of-number (take n (drop k xs)) (bytes_part xs k n b))
    ∙ ap (λ m. bytes_of m (byte.number (take n (drop k xs)))) l
    ∙ ap (λ m. bytes_of n (byte.number (take m (drop k xs)))) (sym e)

number-back :
    (missing fault n lo hi : ℕ) (xs : List ℕ) (k j a : ℕ) → k ≤ length xs → Bytes xs → (number missing fault n lo hi).read xs k ≡ got a j
    → Read (number missing fault n lo hi) xs k j a
number-back missing fault n lo hi xs k j a h b e =
    let p = cond_got _ _ missing (length xs) a j e in
    let q = cond_got _ _ fault k a j p.1 in
    let r = and_parts (leb lo (at n xs k)) (leb (at n xs k) hi) q.0 in
    let w : k + n ≤ length xs = leb-true _ _ p.0 in
    let v : at n xs k ≡ a = got_value q.1 in
    let low : lo ≤ at n xs k = leb-true lo (at n xs k) r.0 in
    let high : at n xs k ≤ hi = leb-true (at n xs k) hi r.1 in
    record {
      proper = (subst (λ m. lo ≤ m) v low, subst (λ m. m ≤ hi) v high);
      stands = subst (λ m. Stands (bytes_of n m) xs k) v (stands_at n xs k b w);
      ends = sym (got_place q.1) ∙ ap (λ m. k + m) (sym (length-bytes_of n a));
    }

number-there :
    (missing fault n lo hi : ℕ) → hi < 256 ^ n → (xs : List ℕ) (k a : ℕ) → k ≤ length xs → (lo ≤ a) × (a ≤ hi) → Stands (bytes_of n a) xs k
    → (number missing fault n lo hi).read xs k ≡ got a (k + length (bytes_of n a))
number-there missing fault n lo hi fits xs k a h p s =
    let v : at n xs k ≡ a = at-stands n a xs k (omega (arith, p.1)) s in
    let w : k + n ≤ length xs = omega (arith, stands_within (bytes_of n a) xs k h s, length-bytes_of n a) in
    let low : lo ≤ at n xs k = omega (arith, p.0) in
    let high : at n xs k ≤ hi = omega (arith, p.1) in
    cond-true _ _ _ (le-leb _ _ w)
    ∙ cond-true _ _ _ (and_from _ _ (le-leb _ _ low) (le-leb _ _ high))
    ∙ ap (λ m. got m (k + n)) v
    ∙ ap (λ m. got a (k + m)) (sym (length-bytes_of n a))

pub number_law : (missing fault n lo hi : ℕ) → hi < 256 ^ n → Lawful (number missing fault n lo hi)
number_law missing fault n lo hi fits = record { there = number-there missing fault n lo hi fits; back = number-back missing fault n lo hi }

pub raw_law : (missing n : ℕ) → Lawful (raw missing n)
raw_law missing n =
    record {
      there =
          λ xs k a h p s.
          let w : k + n ≤ length xs = omega (arith, stands_within a xs k h s, p.0) in
          let e : k + n - k ≡ length a = omega (arith, p.0) in
          cond-true _ _ _ (le-leb _ _ w)
          ∙ ap (λ ys. got ys (k + n)) (ap (λ m. take m (drop k xs)) e ∙ s)
          ∙ ap (λ m. got a (k + m)) (sym p.0);
      back =
          λ xs k j a h b e.
          let p = cond_got _ _ missing (length xs) a j e in
          let w : k + n ≤ length xs = leb-true _ _ p.0 in
          let m : k + n - k ≡ n = omega arith in
          let is : take n (drop k xs) ≡ a = ap (λ i. take i (drop k xs)) (sym m) ∙ got_value p.1 in
          let l : length a ≡ n = sym (ap length is) ∙ omega (arith, length-take n (drop k xs), length-drop k xs) in
          record {
            proper = (l, subst Bytes is (bytes_part xs k n b));
            stands = ap (λ i. take i (drop k xs)) l ∙ is;
            ends = sym (got_place p.1) ∙ ap (λ i. k + i) (sym l);
          };
    }

module _ {A B : Type 0} (c : Codec A) (d : A → Codec B) (lc : Lawful c) (ld : (a : A) → c.Proper a → Lawful (d a)) where
  pub chain_law : Lawful (chain c d)
  chain_law =
      record {
        there =
            λ xs k ab h p s.
            let u = c.write ab.0 in
            let v = (d ab.0).write ab.1 in
            let su = stands_left u v xs k s in
            let w = stands_within u xs k h su in
            ap (λ o. follow o (λ a j. map_out (λ b. (a, b)) ((d a).read xs j))) (lc.there xs k ab.0 h p.0 su)
            ∙ ap (map_out (λ b. (ab.0, b))) ((ld ab.0 p.0).there xs (k + length u) ab.1 w p.1 (stands_right u v xs k s))
            ∙ ap (got ab) (omega (arith, length-append u v));
        back =
            λ xs k i ab h bs e.
            let p = follow_got (c.read xs k) _ ab i e in
            let a = p.0 in
            let j = p.1 in
            let q = map-got (λ b. (a, b)) ((d a).read xs j) ab i p.3 in
            let b = q.0 in
            let ra = lc.back xs k j a h bs p.2 in
            let w = stands_within (c.write a) xs k h ra.stands in
            let rb = (ld a ra.proper).back xs j i b (omega (arith, ra.ends)) bs q.1 in
            subst (Read (chain c d) xs k i) q.2
            record {
              proper = (ra.proper, rb.proper);
              stands =
                  stands_both (c.write a) ((d a).write b) xs k ra.stands (subst (Stands ((d a).write b) xs) ra.ends rb.stands);
              ends = omega (arith, ra.ends, rb.ends, length-append (c.write a) ((d a).write b));
            };
      }

pub ▸-law : {A B : Type 0} (c : Codec A) (d : Codec B) → Lawful c → Lawful d → Lawful (c ▸ d)
▸-law c d lc ld = chain_law c (λ a. d) lc (λ a p. ld)

module _ {A B : Type 0} (to : A → B) (from : B → A) (c : Codec A) (lc : Lawful c) (restores : (a : A) → c.Proper a → from (to a) ≡ a) (names : (b : B) → c.Proper (from b) → to (from b) ≡ b) where
  pub named_law : Lawful (named to from c)
  named_law =
      record {
        there =
            λ xs k b h p s.
            ap (map_out to) (lc.there xs k (from b) h p s) ∙ ap (λ x. got x (k + length (c.write (from b)))) (names b p);
        back =
            λ xs k j b h bs e.
            let q = map-got to (c.read xs k) b j e in
            let r = lc.back xs k j q.0 h bs q.1 in
            let same : q.0 ≡ from b = sym (restores q.0 r.proper) ∙ ap from q.2 in
            record {
              proper = subst c.Proper same r.proper;
              stands = subst (λ a. Stands (c.write a) xs k) same r.stands;
              ends = subst (λ a. j ≡ k + length (c.write a)) same r.ends;
            };
      }

module _ {X A : Type 0} (f : X → Codec A) (lf : (y : X) → Lawful (f y)) where
  each_there :
      (ys : List X) (xs : List ℕ) (k : ℕ) (l : List A) → k ≤ length xs → ProperEach f ys l → Stands (write_each f ys l) xs k
      → read_each f ys xs k ≡ got l (k + length (write_each f ys l))
  each_there [] xs k [] h p s = ap (got []) (omega arith)
  each_there [] xs k (a ∷ l) h p s = absurd p
  each_there (y ∷ ys) xs k [] h p s = absurd p
  each_there (y ∷ ys) xs k (a ∷ l) h p s =
      let u = (f y).write a in
      let v = write_each f ys l in
      let su = stands_left u v xs k s in
      let w = stands_within u xs k h su in
      ap (λ o. follow o (λ b j. map_out (λ m. b ∷ m) (read_each f ys xs j))) ((lf y).there xs k a h p.0 su)
      ∙ ap (map_out (λ m. a ∷ m)) (each_there ys xs (k + length u) l w p.1 (stands_right u v xs k s))
      ∙ ap (got (a ∷ l)) (omega (arith, length-append u v))

  each_back :
      (ys : List X) (xs : List ℕ) (k i : ℕ) (l : List A) → k ≤ length xs → Bytes xs → read_each f ys xs k ≡ got l i → Read (each f ys) xs k i l
  each_back [] xs k i l h bs e =
      subst (Read (each f []) xs k i) (got_value e) record { proper = tt; stands = refl; ends = omega (arith, got_place e) }
  each_back (y ∷ ys) xs k i l h bs e =
      let p = follow_got ((f y).read xs k) _ l i e in
      let a = p.0 in
      let j = p.1 in
      let q = map-got (λ m. a ∷ m) (read_each f ys xs j) l i p.3 in
      let m = q.0 in
      let ra = (lf y).back xs k j a h bs p.2 in
      let w = stands_within ((f y).write a) xs k h ra.stands in
      let rm = each_back ys xs j i m (omega (arith, ra.ends)) bs q.1 in
      subst (Read (each f (y ∷ ys)) xs k i) q.2
      record {
        proper = (ra.proper, rm.proper);
        stands =
            stands_both ((f y).write a) (write_each f ys m) xs k ra.stands (subst (Stands (write_each f ys m) xs) ra.ends rm.stands);
        ends = omega (arith, ra.ends, rm.ends, length-append ((f y).write a) (write_each f ys m));
      }

  pub each_law : (ys : List X) → Lawful (each f ys)
  each_law ys = record { there = each_there ys; back = each_back ys }

pub times_law : {A : Type 0} (n : ℕ) (c : Codec A) → Lawful c → Lawful (times n c)
times_law n c l = each_law (λ (u : Unit {0}). c) (λ u. l) _

module _ {A : Type 0} (long : ℕ) (c : Codec A) (lc : Lawful c) where
  -- What is proper, written, is read as it.
  pub whole_there : (a : A) → c.Proper a → whole long c (c.write a) ≡ got a (length (c.write a))
  unfolding whole
  whole_there a p =
      let e : 0 + length (c.write a) ≡ length (c.write a) = omega arith in
      ap (λ o. follow o (λ b j. cond (eqb j (length (c.write a))) (got b j) (refused long j)))
      (lc.there (c.write a) 0 a (omega arith) p (take_all _ (c.write a) (omega arith)) ∙ ap (got a) e)
      ∙ cond-true (eqb (length (c.write a)) (length (c.write a))) (got a (length (c.write a))) (refused long (length (c.write a))) (eq-eqb _ _ refl)

  -- What is read is proper, and written anew it is the same bytes.
  pub whole_back : (xs : List ℕ) (a : A) (j : ℕ) → Bytes xs → whole long c xs ≡ got a j → c.Proper a × (c.write a ≡ xs) × (j ≡ length xs)
  unfolding whole
  whole_back xs a j bs e =
      let p = follow_got (c.read xs 0) _ a j e in
      let q = cond_got (eqb p.1 (length xs)) (got p.0 p.1) long p.1 a j p.3 in
      let r = lc.back xs 0 p.1 p.0 (omega arith) bs p.2 in
      let n : p.1 ≡ length xs = eqb-true _ _ q.0 in
      let all : c.write p.0 ≡ xs = sym r.stands ∙ take_all _ xs (omega (arith, r.ends)) in
      (subst c.Proper (got_value q.1) r.proper, sym (ap c.write (got_value q.1)) ∙ all, sym (got_place q.1) ∙ n)
