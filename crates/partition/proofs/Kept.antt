-- What stays in a block one of whose control frames was written.
use Rattle.std.proofs.Common.{◌≡◌, ℕ, ◌<◌, List, sym, refl, ap, ◌∙◌, arith}
use Rattle.octets.specs.Bytes.{put, bytes_of, at}
use Rattle.memory.specs.Frames.{frame, Mapped, OnlyFrame}
use Rattle.memory.proofs.Frames.{at-frame, length-frame}
use Rattle.octets.proofs.Written.{at-put}
use Rattle.partition.specs.Block.{count_of, TableKept}

-- How many tasks there are is said in frame 4.
pub count_is : (b : List ℕ) → at 1 (frame 4 b) 0 ≡ count_of b
unfolding count_of
count_is b = at-frame 1 4 b 0 (omega arith)

pub count_frame : (a b : List ℕ) → frame 4 b ≡ frame 4 a → count_of b ≡ count_of a
count_frame a b e = sym (count_is b) ∙ ap (λ f. at 1 f 0) e ∙ count_is a

pub count_written :
    (a b : List ℕ) (n : ℕ) → Mapped a → frame 4 b ≡ put (frame 4 a) 0 (bytes_of 1 n) → n < 256 → count_of b ≡ n
count_written a b n m e h =
    sym (count_is b)
    ∙ ap (λ f. at 1 f 0) e
    ∙ at-put 1 (frame 4 a) 0 n (omega (arith, length-frame 4 a (omega (arith, m.whole)))) h

-- Where only the task table was written, the unheard bytes and the number of tasks stay.
pub unheard_kept : {a b : List ℕ} → OnlyFrame 2 a b → frame 3 b ≡ frame 3 a
unheard_kept only = only.others 3 (omega arith) (λ e. omega arith)

pub count_kept : {a b : List ℕ} → OnlyFrame 2 a b → count_of b ≡ count_of a
count_kept {a} {b} only = count_frame a b (only.others 4 (omega arith) (λ e. omega arith))

-- Where only the unheard bytes were, the task table stays.
pub table_kept : {a b : List ℕ} → OnlyFrame 3 a b → TableKept a b
table_kept {a} {b} only =
    record {
      table = only.others 2 (omega arith) (λ e. omega arith);
      count = count_frame a b (only.others 4 (omega arith) (λ e. omega arith));
    }

pub kept_self : (b : List ℕ) → TableKept b b
kept_self b = record { table = refl; count = refl }

pub kept_then : {a b d : List ℕ} → TableKept a b → TableKept b d → TableKept a d
kept_then x y = record { table = y.table ∙ x.table; count = y.count ∙ x.count }
