-- What was taken, and what was not.
use Rattle.std.proofs.Common.{◌≡◌, ℕ, Bool, true, List, is_ok, Ok, Err, Result, sym, refl, ap, ◌∙◌}
use Rattle.codec.specs.Codec.{Outcome, got, refused, Bytes}
use Rattle.codec.proofs.Outcomes.{got_value}
use Rattle.codec.proofs.Laws.{whole_there, whole_back}
use Rattle.plan.specs.declared.refusal.Refusal.{Refusal}
use Rattle.plan.specs.Refusals.{told}
use Rattle.plan.specs.Ends.{seen}
use Rattle.plan.specs.Layout.{Image, image, read_plan, write_plan}
use Rattle.plan.specs.Bounds.{InBounds}
use Rattle.plan.specs.Promise.{ReadsAll, WritesBack, Exactly, Says}
use Rattle.plan.specs.Taken.{was_read, accepts, image_in}
use Rattle.plan.proofs.Lawfulness.{image_law}
use Rattle.plan.proofs.Bounded.{bounds-proper, proper_bounds}
use Rattle.plan.proofs.Opened.{accepted}

pub reads_all : ReadsAll
unfolding read_plan write_plan
reads_all i b = whole_there 1 image image_law i (proper_bounds i b)

pub writes_back : WritesBack
unfolding read_plan write_plan
writes_back xs i j bs e = let p = whole_back 1 image image_law xs i j bs e in (bounds-proper i p.0, p.1)

told_read : {A : Type 0} (j : ℕ) (r : Result A Refusal) → is_ok r ≡ was_read (told j r)
told_read j (Ok a) = refl
told_read j (Err e) = refl

seen_read : {A : Type 0} (o : Outcome A) → was_read (seen o) ≡ was_read o
seen_read (got a j) = refl
seen_read (refused n p) = refl

pub taken_is : (xs : List ℕ) (j : ℕ) (r : Result (Unit {0}) Refusal) → told j r ≡ seen (read_plan xs) → is_ok r ≡ accepts xs
unfolding accepts
taken_is xs j r e = told_read j r ∙ ap was_read e ∙ seen_read (read_plan xs)

taken_all : (i : Image) → InBounds i → accepts (write_plan i) ≡ true
unfolding accepts
taken_all i b = ap was_read (reads_all i b)

pub exactly : (xs : List ℕ) (t : Bool) → Bytes xs → t ≡ accepts xs → Exactly xs t
exactly xs t bs e = (
  (λ h.
      let a = accepted xs (sym e ∙ h) in
      let w = writes_back xs (image_in xs) a.0 bs a.1 in
      (image_in xs, w.0, w.1)),
  λ p. e ∙ ap accepts (sym p.2) ∙ taken_all p.0 p.1,
)

pub says : (xs : List ℕ) → Bytes xs → accepts xs ≡ true → Says xs (image_in xs)
says xs bs ok =
    let a = accepted xs ok in
    let w = writes_back xs (image_in xs) a.0 bs a.1 in
    record {
      bounds = w.0;
      bytes = w.1;
      only = λ o b e. got_value (sym (reads_all o b) ∙ ap read_plan e ∙ a.1);
    }
