-- Two lists of one length, related element by element. Assumes nothing.
use Rattle.std.specs.Prelude.{◌≡◌, refl, List, [], ◌∷◌, ◌++◌, map, ℕ, zero, suc, ◌<◌, length, get_or}
use Rattle.std.proofs.Common.{sym, ap, subst, inl, inr, le_of_suc-le-suc, not-suc-le-zero}
use Rattle.spec_basics.specs.Elements.{In}

module _ {X Y : Type 0} where
  abbrev pub SideBySide : (X → Y → Type 0) → List X → List Y → Type 0
  SideBySide P [] [] = Unit {0}
  SideBySide P [] (w ∷ ws) = ⊥
  SideBySide P (r ∷ rows) [] = ⊥
  SideBySide P (r ∷ rows) (w ∷ ws) = P r w × SideBySide P rows ws

  pub side-map : (P P' : X → Y → Type 0) (f : X → X) → ((r : X) (w : Y) → P r w → P' (f r) w)
      → (rows : List X) (ws : List Y) → SideBySide P rows ws → SideBySide P' (map f rows) ws
  side-map P P' f g [] [] b = tt
  side-map P P' f g [] (w ∷ ws) b = b
  side-map P P' f g (r ∷ rows) [] b = b
  side-map P P' f g (r ∷ rows) (w ∷ ws) b = (g r w b.0, side-map P P' f g rows ws b.1)

  pub side-keep : (P P' : X → Y → Type 0) → ((r : X) (w : Y) → P r w → P' r w) → (rows : List X) (ws : List Y) → SideBySide P rows ws → SideBySide P' rows ws
  side-keep P P' g [] [] b = tt
  side-keep P P' g [] (w ∷ ws) b = b
  side-keep P P' g (r ∷ rows) [] b = b
  side-keep P P' g (r ∷ rows) (w ∷ ws) b = (g r w b.0, side-keep P P' g rows ws b.1)

  pub side-snoc : (P : X → Y → Type 0) (r : X) (w : Y) → P r w
      → (rows : List X) (ws : List Y) → SideBySide P rows ws → SideBySide P (rows ++ (r ∷ [])) (ws ++ (w ∷ []))
  side-snoc P r w p [] [] b = (p, tt)
  side-snoc P r w p [] (x ∷ ws) b = absurd b
  side-snoc P r w p (y ∷ rows) [] b = absurd b
  side-snoc P r w p (y ∷ rows) (x ∷ ws) b = (b.0, side-snoc P r w p rows ws b.1)

  pub side-at : (P : X → Y → Type 0) (d : X) (d' : Y) (rows : List X) (ws : List Y) → SideBySide P rows ws → (i : ℕ) → i < length rows → P (get_or rows i d) (get_or ws i d')
  side-at P d d' [] ws b i h = absurd (not-suc-le-zero h)
  side-at P d d' (r ∷ rows) [] b i h = absurd b
  side-at P d d' (r ∷ rows) (w ∷ ws) b zero h = b.0
  side-at P d d' (r ∷ rows) (w ∷ ws) b (suc i) h = side-at P d d' rows ws b.1 i (le_of_suc-le-suc h)

  pub side-in : (P : X → Y → Type 0) (r : X) (rows : List X) (ws : List Y) → SideBySide P rows ws → In r rows → (w : Y) × P r w
  side-in P r [] ws b m = absurd m
  side-in P r (x ∷ rows) [] b m = absurd b
  side-in P r (x ∷ rows) (w ∷ ws) b (inl e) = (w, subst (λ (z : X). P z w) (sym e) b.0)
  side-in P r (x ∷ rows) (w ∷ ws) b (inr m) = side-in P r rows ws b.1 m

  pub side-length : (P : X → Y → Type 0) (rows : List X) (ws : List Y) → SideBySide P rows ws → length rows ≡ length ws
  side-length P [] [] b = refl
  side-length P [] (w ∷ ws) b = absurd b
  side-length P (r ∷ rows) [] b = absurd b
  side-length P (r ∷ rows) (w ∷ ws) b = ap suc (side-length P rows ws b.1)
