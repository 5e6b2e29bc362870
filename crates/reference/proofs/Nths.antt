-- Elements by their place.
use Rattle.std.proofs.Common.{◌≡◌, ℕ, zero, suc, ◌+◌, ◌<◌, ◌≤◌, List, [], ◌∷◌, ◌++◌, map, length, get_or, take, drop, set, Some, sym, ap, ◌∙◌, append_assoc, arith}
use Rattle.std.specs.List.{slice_get}
use Rattle.std.specs.Option.{option_map}
use Rattle.std.proofs.lemmas.Option.{slice_get-map}
use Rattle.std.proofs.lemmas.List.{append-nil, get_or_at, set-get_or, drop_more, take_more, set_at, length-take-le, take_all, drop_all}

module _ {X : Type 0} where
  pub set_same : (xs : List X) (i : ℕ) (x d : X) → get_or xs i d ≡ x → set xs i x ≡ xs
  set_same xs i x d e = ap (set xs i) (sym e) ∙ set-get_or xs i d

  -- One more element of a list that is made anew from the front.
  pub renewed_more : (ls rs : List X) (i : ℕ) (x d : X) → length ls ≡ length rs → i < length rs → get_or ls i d ≡ x → set (take i ls ++ drop i rs) i x ≡ take (i + 1) ls ++ drop (i + 1) rs
  renewed_more ls rs i x d l h e =
      ap (λ zs. set (take i ls ++ zs) i x) (drop_more rs i d h)
      ∙ set_at (take i ls) (get_or rs i d) (drop (i + 1) rs) x i (length-take-le i ls (omega arith))
      ∙ ap (λ z. take i ls ++ z ∷ drop (i + 1) rs) (sym e)
      ∙ sym (append_assoc (take i ls) (get_or ls i d ∷ []) (drop (i + 1) rs))
      ∙ ap (λ zs. zs ++ drop (i + 1) rs) (sym (take_more ls i d (omega arith)))

  pub renewed_all : (ls rs : List X) (i : ℕ) → length ls ≡ length rs → length rs ≤ i → take i ls ++ drop i rs ≡ ls
  renewed_all ls rs i l h =
      ap (λ zs. take i ls ++ zs) (drop_all i rs h) ∙ append-nil (take i ls) ∙ take_all i ls (omega arith)

  pub get_or_renewed : (ls rs : List X) (i : ℕ) (d : X) → length ls ≡ length rs → i < length rs → get_or (take i ls ++ drop i rs) i d ≡ get_or rs i d
  get_or_renewed ls rs i d l h =
      ap (λ zs. get_or (take i ls ++ zs) i d) (drop_more rs i d h)
      ∙ get_or_at (take i ls) (get_or rs i d) (drop (i + 1) rs) d i (length-take-le i ls (omega arith))

module _ {X Y : Type 0} (f : X → Y) where
  pub get_or-map_some : (xs : List X) (i : ℕ) (x : X) (d : Y) → slice_get xs i ≡ Some x → get_or (map f xs) i d ≡ f x
  get_or-map_some [] i x d e = let z : ◌≡◌ {A = ℕ} 0 1 = cc in absurd (omega arith)
  get_or-map_some (y ∷ ys) zero x d e = let same : y ≡ x = cc in ap f same
  get_or-map_some (y ∷ ys) (suc i) x d e = get_or-map_some ys i x d e

  pub nth-map_some : (xs : List X) (i : ℕ) (x : X) → slice_get xs i ≡ Some x → slice_get (map f xs) i ≡ Some (f x)
  nth-map_some xs i x e = slice_get-map f xs i ∙ ap (option_map f) e
