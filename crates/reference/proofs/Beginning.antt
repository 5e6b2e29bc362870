-- How the world begins.
use Rattle.std.proofs.Common.{◌≡◌, ℕ, zero, suc, ◌+◌, ◌<◌, ◌≤◌, ◌≢◌, List, [], ◌∷◌, map, length, get_or, set, replicate, Some, sym, refl, ap, ◌∙◌, subst, ⊎_elim, add-zero, add-suc, suc-add, zero-add, arith}
use Rattle.std.proofs.lemmas.Bool.{cases_eq}
use Rattle.std.proofs.lemmas.Option.{slice_get_within}
use Rattle.std.specs.List.{slice_get}
use Rattle.cpu.specs.Rv32i.{rv32i}
use Rattle.model.specs.declared.plan.Window.{Window}
use Rattle.model.specs.Tick.{new_parts, begin}
use Rattle.reference.specs.declared.part.Partition.{Partition}
use Rattle.reference.specs.declared.queue.Queue.{Queue}
use Rattle.reference.specs.Letters.{sents_of}
use Rattle.reference.specs.Parts.{New, tasks_of, part_of}
use Rattle.reference.specs.Own.{plan_of, plans_of, channels_of}
use Rattle.reference.specs.View.{plan_in, parts_of, world_of}

pub new_parts_lem :
    (xs : List Partition) (memory : ℕ → List ℕ) (ms : List (List ℕ)) (i : ℕ) → ((j : ℕ) → memory (i + j) ≡ get_or ms j []) → ((q : ℕ) (x : Partition) → slice_get xs q ≡ Some x → New x)
    → parts_of xs memory (λ _. []) i ≡ new_parts rv32i (map tasks_of xs) ms
unfolding parts_of new_parts part_of
new_parts_lem [] memory ms i e n = refl
new_parts_lem (x ∷ xs) memory [] i e n =
    (λ j.
    record { memory = (ap memory (sym (add-zero i)) ∙ e 0) j; tasks = (n 0 x refl).runs j; heard = (n 0 x refl).heard j; shown = [] }
    ∷ new_parts_lem xs memory [] (suc i) (λ k. ap memory (suc-add i k ∙ sym (add-suc i k)) ∙ e (suc k)) (λ q y h. n (suc q) y h) j)
new_parts_lem (x ∷ xs) memory (m ∷ ms) i e n =
    (λ j.
    record { memory = (ap memory (sym (add-zero i)) ∙ e 0) j; tasks = (n 0 x refl).runs j; heard = (n 0 x refl).heard j; shown = [] }
    ∷ new_parts_lem xs memory ms (suc i) (λ k. ap memory (suc-add i k ∙ sym (add-suc i k)) ∙ e (suc k)) (λ q y h. n (suc q) y h) j)

new_channels : (cs : List Queue) → ((c : ℕ) (q : Queue) → slice_get cs c ≡ Some q → sents_of q ≡ []) → map sents_of cs ≡ replicate (length (map plan_of cs)) []
new_channels [] h = refl
new_channels (q ∷ qs) h = λ j. h 0 q refl j ∷ new_channels qs (λ c r e. h (suc c) r e) j

pub begins :
    (system : ℕ) (ws : List Window) (xs : List Partition) (ms : List (List ℕ)) (cs : List Queue) → ((q : ℕ) (x : Partition) → slice_get xs q ≡ Some x → New x)
    → ((c : ℕ) (q : Queue) → slice_get cs c ≡ Some q → sents_of q ≡ []) → world_of 0 xs ms cs (λ _. []) ≡ begin rv32i (plan_in system ws xs cs) ms
unfolding world_of begin plan_in plans_of channels_of
begins system ws xs ms cs n e =
    λ j. record { time = 0; parts = new_parts_lem xs (λ q. get_or ms q []) ms 0 (λ k. ap (λ q. get_or ms q []) (zero-add k)) n j; channels = new_channels cs e j }

-- ---- one after the other

module _ {X : Type 0} where
  nth-set-same : (xs : List X) (q : ℕ) (y x : X) → slice_get (set xs q y) q ≡ Some x → y ≡ x
  nth-set-same [] q y x e = cc
  nth-set-same (z ∷ zs) zero y x e = cc
  nth-set-same (z ∷ zs) (suc q) y x e = nth-set-same zs q y x e

  nth-set_other : (xs : List X) (q j : ℕ) (y : X) → j ≢ q → slice_get (set xs q y) j ≡ slice_get xs j
  nth-set_other [] q j y h = refl
  nth-set_other (z ∷ zs) zero zero y h = absurd (h refl)
  nth-set_other (z ∷ zs) zero (suc j) y h = refl
  nth-set_other (z ∷ zs) (suc q) zero y h = refl
  nth-set_other (z ∷ zs) (suc q) (suc j) y h = nth-set_other zs q j y (λ e. h (ap suc e))

  -- What holds of each element before place q holds of each before the next, when it holds of the one put there.
  pub each_more :
      (P : X → Type 0) (xs : List X) (q : ℕ) (y : X) → ((j : ℕ) (x : X) → j < q → slice_get xs j ≡ Some x → P x) → P y → (j : ℕ) (x : X) → j < q + 1 → slice_get (set xs q y) j ≡ Some x → P x
  each_more P xs q y below here j x h e =
      ⊎_elim
      (λ (same : j ≡ q). subst P (nth-set-same xs q y x (subst (λ k. slice_get (set xs q y) k ≡ Some x) same e)) here)
      (λ (ne : j ≢ q). below j x (omega arith) (sym (nth-set_other xs q j y ne) ∙ e))
      (cases_eq j q)

  pub each_all : (P : X → Type 0) (xs : List X) (q : ℕ) → length xs ≤ q → ((j : ℕ) (x : X) → j < q → slice_get xs j ≡ Some x → P x) → (j : ℕ) (x : X) → slice_get xs j ≡ Some x → P x
  each_all P xs q l h j x e = h j x (omega (arith, slice_get_within xs j x e)) e
