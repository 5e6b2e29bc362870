-- What a write into a part of the table leaves: all that is read outside of it.
use Rattle.std.proofs.Common.{◌≡◌, ℕ, ◌+◌, ◌≤◌, ◌⊎◌, List, length, ap, ◌∙◌, inl, inr, ⊎_elim, arith}
use Rattle.octets.specs.Bytes.{put, bytes_of, at}
use Rattle.octets.proofs.Numbers.{length-bytes_of}
use Rattle.octets.proofs.Puts.{length-put}
use Rattle.octets.proofs.Written.{at-put_other}

-- Numbers that lie before a place, or from another on, are the same.
pub record Outside (from to : ℕ) (a b : List ℕ) : Type 0 where
  pub long : length b ≡ length a
  pub same : (n j : ℕ) → (j + n ≤ from) ⊎ (to ≤ j) → at n b j ≡ at n a j

pub outside_then : {from to : ℕ} {a b c : List ℕ} → Outside from to a b → Outside from to b c → Outside from to a c
outside_then p q = record { long = q.long ∙ p.long; same = λ n j o. q.same n j o ∙ p.same n j o }

pub outside_put : (from to : ℕ) (a b : List ℕ) (n k v : ℕ) → b ≡ put a k (bytes_of n v) → k + n ≤ length a → from ≤ k → k + n ≤ to → Outside from to a b
outside_put from to a b n k v e h l u =
    let w = length-bytes_of n v in
    record {
      long = ap length e ∙ length-put a (bytes_of n v) k (omega arith);
      same =
          λ m j o.
          ap (λ z. at m z j) e
          ∙ at-put_other m a (bytes_of n v) k j (omega arith) (⊎_elim (λ (p : j + m ≤ from). inl (omega arith)) (λ (p : to ≤ j). inr (omega arith)) o);
    }

pub outside_wider : (from to from' to' : ℕ) (a b : List ℕ) → from' ≤ from → to ≤ to' → Outside from to a b → Outside from' to' a b
outside_wider from to from' to' a b l u p =
    record {
      long = p.long;
      same = λ m j o. p.same m j (⊎_elim (λ (q : j + m ≤ from'). inl (omega arith)) (λ (q : to' ≤ j). inr (omega arith)) o);
    }
