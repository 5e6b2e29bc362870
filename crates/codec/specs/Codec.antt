-- Things in bytes: how one is read at a place, how it is written, and which are proper. Assumes nothing: these are
-- definitions.
use Rattle.std.specs.Prelude.{◌≡◌, ℕ, ◌+◌, ◌<◌, ◌≤◌, if◌then◌else◌, ◌&&◌, List, [], ◌∷◌, ◌++◌, length, replicate, ◌==◌, nat_le, slice_index}
use Rattle.std.specs.List.{between}
use Rattle.octets.specs.Bytes.{at, bytes_of}

-- What comes of reading: a value and the place behind it, or the number of a refusal and its place.
pub data Outcome (A : Type 0) : Type 0 where
  got : A → ℕ → Outcome A
  refused : ℕ → ℕ → Outcome A

-- Reading goes on behind what was read; a refusal ends it.
abbrev pub follow : {A B : Type 0} → Outcome A → (A → ℕ → Outcome B) → Outcome B
follow (got a j) f = f a j
follow (refused n p) f = refused n p

-- What was read, seen through f.
abbrev pub map_out : {A B : Type 0} → (A → B) → Outcome A → Outcome B
map_out f (got a j) = got (f a) j
map_out f (refused n p) = refused n p

-- A kind of thing: reading one that begins at a place, its bytes, and which ones may stand there.
pub record Codec (A : Type 0) : Type 1 where
  pub read : List ℕ → ℕ → Outcome A
  pub write : A → List ℕ
  pub Proper : A → Type 0

-- All of the row are bytes.
abbrev pub Bytes : List ℕ → Type 0
Bytes xs = (i : ℕ) → slice_index xs i < 256

-- A number of n bytes, from lo to hi. Where its bytes are missing, that is refused at the end of all bytes; where it is out
-- of range, at its first byte.
abbrev pub number : (missing fault n lo hi : ℕ) → Codec ℕ
number missing fault n lo hi =
    record {
      read =
          λ xs k.
          if nat_le (k + n) (length xs) then (if nat_le lo (at n xs k) && nat_le (at n xs k) hi then got (at n xs k) (k + n) else refused fault k)
          else refused missing (length xs);
      write = bytes_of n;
      Proper = λ v. (lo ≤ v) × (v ≤ hi);
    }

-- So many bytes as they are.
abbrev pub raw : (missing n : ℕ) → Codec (List ℕ)
raw missing n =
    record {
      read = λ xs k. if nat_le (k + n) (length xs) then got (between k (k + n) xs) (k + n) else refused missing (length xs);
      write = λ ys. ys;
      Proper = λ ys. (length ys ≡ n) × Bytes ys;
    }

-- One thing, and behind it another that depends on it.
abbrev pub chain : {A B : Type 0} → Codec A → (A → Codec B) → Codec (A × B)
chain c d =
    record {
      read = λ xs k. follow (c.read xs k) (λ a j. map_out (λ b. (a, b)) ((d a).read xs j));
      write = λ ab. c.write ab.0 ++ (d ab.0).write ab.1;
      Proper = λ ab. c.Proper ab.0 × (d ab.0).Proper ab.1;
    }

infixr 40 ◌▸◌
-- One thing, and behind it another that does not.
abbrev pub ◌▸◌ : {A B : Type 0} → Codec A → Codec B → Codec (A × B)
c ▸ d = chain c (λ a. d)

abbrev pub read_each : {X A : Type 0} → (X → Codec A) → List X → List ℕ → ℕ → Outcome (List A)
read_each f [] xs k = got [] k
read_each f (y ∷ ys) xs k = follow ((f y).read xs k) (λ a j. map_out (λ l. a ∷ l) (read_each f ys xs j))

abbrev pub write_each : {X A : Type 0} → (X → Codec A) → List X → List A → List ℕ
write_each f [] l = []
write_each f (y ∷ ys) [] = []
write_each f (y ∷ ys) (a ∷ l) = (f y).write a ++ write_each f ys l

abbrev pub ProperEach : {X A : Type 0} → (X → Codec A) → List X → List A → Type 0
ProperEach f [] [] = Unit {0}
ProperEach f [] (a ∷ l) = ⊥
ProperEach f (y ∷ ys) [] = ⊥
ProperEach f (y ∷ ys) (a ∷ l) = (f y).Proper a × ProperEach f ys l

-- For each of a row a thing that depends on it, one behind the other.
abbrev pub each : {X A : Type 0} → (X → Codec A) → List X → Codec (List A)
each f ys = record { read = read_each f ys; write = write_each f ys; Proper = ProperEach f ys }

-- So many things of one kind, one behind the other.
abbrev pub times : {A : Type 0} → ℕ → Codec A → Codec (List A)
times n c = each (λ (u : Unit {0}). c) (replicate n tt)

-- The same bytes, under another name for what they say.
abbrev pub named : {A B : Type 0} → (A → B) → (B → A) → Codec A → Codec B
named to from c =
    record { read = λ xs k. map_out to (c.read xs k); write = λ b. c.write (from b); Proper = λ b. c.Proper (from b) }

-- A thing that is all of the bytes. Where they go on behind it, that is refused at the first too many.
unfoldable pub whole : {A : Type 0} → ℕ → Codec A → List ℕ → Outcome A
whole long c xs = follow (c.read xs 0) (λ a j. if j == length xs then got a j else refused long j)
