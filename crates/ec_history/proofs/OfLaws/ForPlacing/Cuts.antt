-- Longer histories and longer transcripts.
use Rattle.std.proofs.Common.{sym, subst, ℕ, List, [], ◌∷◌, ◌++◌, append_assoc, append-nil}
use Rattle.ec_history.specs.History.{Base, History, Throughout}
use Rattle.ec_history.specs.Legal.{IsLegal, IsLegalNext}
use Rattle.ec_history.specs.Placing.{ArePlaceable, MayFollow}
use Rattle.ec_history.specs.declared.entry.Entry.{Entry}
use Rattle.ec_history.specs.declared.shown.Shown.{Shown}

module _ (P : History → ℕ × Entry → Type 0) where
  pub throughout-append : (past h g : History) → Throughout P past h → Throughout P (past ++ h) g → Throughout P past (h ++ g)
  throughout-append past [] g t u = subst (λ x. Throughout P x g) (append-nil past) u
  throughout-append past (e ∷ h) g t u = (t.0, throughout-append (past ++ e ∷ []) h g t.1 (subst (λ x. Throughout P x g) (sym (append_assoc past (e ∷ []) h)) u))

  pub throughout-front : (past h g : History) → Throughout P past (h ++ g) → Throughout P past h
  throughout-front past [] g t = tt
  throughout-front past (e ∷ h) g t = (t.0, throughout-front (past ++ e ∷ []) h g t.1)

  pub throughout-back : (past h g : History) → Throughout P past (h ++ g) → Throughout P (past ++ h) g
  throughout-back past [] g t = subst (λ x. Throughout P x g) (sym (append-nil past)) t
  throughout-back past (e ∷ h) g t = subst (λ x. Throughout P x g) (append_assoc past (e ∷ []) h) (throughout-back (past ++ e ∷ []) h g t.1)

module _ (base : Base) (most : ℕ) where
  pub legal-append : (h g : History) → IsLegal base most h → Throughout (IsLegalNext base most) h g → IsLegal base most (h ++ g)
  legal-append h g = throughout-append (IsLegalNext base most) [] h g

  pub legal-step : (h : History) (e : ℕ × Entry) → IsLegal base most h → IsLegalNext base most h e → IsLegal base most (h ++ e ∷ [])
  legal-step h e t n = legal-append h (e ∷ []) t (n, tt)

  pub legal-split : (h g : History) → IsLegal base most (h ++ g) → IsLegal base most h × Throughout (IsLegalNext base most) h g
  legal-split h g t = (throughout-front (IsLegalNext base most) [] h g t, throughout-back (IsLegalNext base most) [] h g t)

pub placeable-append : (past ss ts : List Shown) → ArePlaceable past ss → ArePlaceable (past ++ ss) ts → ArePlaceable past (ss ++ ts)
placeable-append past [] ts t u = subst (λ x. ArePlaceable x ts) (append-nil past) u
placeable-append past (s ∷ ss) ts t u = (t.0, placeable-append (past ++ s ∷ []) ss ts t.1 (subst (λ x. ArePlaceable x ts) (sym (append_assoc past (s ∷ []) ss)) u))

pub placeable-front : (past ss ts : List Shown) → ArePlaceable past (ss ++ ts) → ArePlaceable past ss
placeable-front past [] ts t = tt
placeable-front past (s ∷ ss) ts t = (t.0, placeable-front (past ++ s ∷ []) ss ts t.1)

pub placeable-back : (past ss ts : List Shown) → ArePlaceable past (ss ++ ts) → ArePlaceable (past ++ ss) ts
placeable-back past [] ts t = subst (λ x. ArePlaceable x ts) (sym (append-nil past)) t
placeable-back past (s ∷ ss) ts t = subst (λ x. ArePlaceable x ts) (append_assoc past (s ∷ []) ss) (placeable-back (past ++ s ∷ []) ss ts t.1)

pub placeable-step : (ss : List Shown) (s : Shown) → ArePlaceable [] ss → MayFollow ss s → ArePlaceable [] (ss ++ s ∷ [])
placeable-step ss s t m = placeable-append [] ss (s ∷ []) t (m, tt)

pub placeable-join : (ss ts : List Shown) → ArePlaceable [] ss → ArePlaceable ss ts → ArePlaceable [] (ss ++ ts)
placeable-join ss ts = placeable-append [] ss ts

pub placeable-split : (ss ts : List Shown) → ArePlaceable [] (ss ++ ts) → ArePlaceable [] ss × ArePlaceable ss ts
placeable-split ss ts t = (placeable-front [] ss ts t, placeable-back [] ss ts t)
