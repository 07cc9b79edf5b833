-- Ids stay new behind one more line.
use Rattle.std.proofs.Common.{◌≡◌, sym, ap₂, subst, ◌∙◌, inl, ◌≤◌, ℕ, false, T, List, [], ◌∷◌, ◌++◌, map, length}
use Rattle.ec_volume.specs.Image.{is_gone}
use Rattle.ec_volume.specs.Update.{member}
use Rattle.ec_volume.specs.Volume.{Images, after}
use Rattle.ec_plain.specs.Plain.{plain}
use Rattle.ec_history.specs.History.{Base, Each, History, Throughout, issued, updates}
use Rattle.ec_history.specs.Legal.{is_making}
use Rattle.ec_history.specs.Placing.{place}
use Rattle.ec_history.specs.declared.entry.Entry.{Entry}
use Rattle.ec_history.specs.declared.entry.Entry.TheVariants as entry
use Rattle.ec_history.specs.declared.shown.Shown.{Shown}
use Rattle.ec_history.proofs.OfLaws.ForPlacing.Cuts.{throughout-append}
use Rattle.ec_history.proofs.OfLaws.ForPlacing.Places.{places-within}
use Rattle.ec_history.specs.OfLaws.Placing.{made_ids}
use Rattle.ec_history.specs.OfLaws.NewIds.{IsNewId, MayChange, WouldMake}
use Rattle.ec_history.proofs.OfLaws.ForRenamed.IdleIds.{Full, Same, along, begin, full}

module _ (v : Images) (f q : ℕ → ℕ) where
  abbrev base : Base
  base = record { volume = v; fresh = f }

  abbrev other : Base
  other = record { volume = v; fresh = q }

  abbrev Agree : History → ℕ × Entry → Type 0
  Agree past e = q e.0 ≡ f e.0

  module _ (n : ℕ) (agree : (p : ℕ) → p ≤ n → q p ≡ f p) where
    agrees : (past h : History) → Each (λ p. (1 ≤ p) × (p ≤ n)) (map (λ e. e.0) h) → Throughout Agree past h
    agrees past [] k = tt
    agrees past (e ∷ h) k = (agree e.0 k.0.1, agrees (past ++ e ∷ []) h k.1)

  may : (past h : History) → Throughout Agree past h → Throughout (MayChange v f q) past h
  may past [] t = tt
  may past (e ∷ h) t = ((λ w. inl t.0), may (past ++ e ∷ []) h t.1)

  made-before : (past : History) (e : ℕ × Entry) → Same v f q past → Agree past e → WouldMake other past e → WouldMake base past e
  made-before past (p, entry.Call c b l begun cl a op) s k w = ap₂ (λ ks x. is_making (plain (after v (updates ks)) cl x).update) (sym s.kept) (sym k) ∙ w
  made-before past (p, entry.Loss c b ns) s k w = w

  new-same : (past : History) (e : ℕ × Entry) → Full v f q past e → Agree past e → IsNewId v f past e → IsNewId v q past e
  new-same past e m k new w =
      let was = new (made-before past e m.1.0 k w) in
      (subst (λ x. T (is_gone (v x))) (sym k) was.0, subst (λ os. Each (λ o. member (q e.0) (made_ids o.update) ≡ false) os) (sym (m.1.0).issued) (subst (λ x. Each (λ o. member x (made_ids o.update) ≡ false) (issued base past)) (sym k) was.1))

  both : (past h : History) → Throughout (Full v f q) past h → Throughout Agree past h → Throughout (λ past e. Full v f q past e × Agree past e) past h
  both past [] t u = tt
  both past (e ∷ h) t u = ((t.0, u.0), both (past ++ e ∷ []) h t.1 u.1)

  pub grows : (ss : List Shown) (s : Shown) (es : History) → place (ss ++ s ∷ []) ≡ place ss ++ es → ((p : ℕ) → p ≤ length ss → q p ≡ f p)
      → Throughout (IsNewId v f) [] (place ss) → Throughout (IsNewId v q) (place ss) es → Throughout (IsNewId v q) [] (place (ss ++ s ∷ []))
  grows ss s es placed agree t u =
      let a = agrees (length ss) agree [] (place ss) (places-within ss) in
      let m = full v f q [] (place ss) (begin v f q) tt (may [] (place ss) a) in
      let now = along v f q (λ past e. Full v f q past e × Agree past e) (IsNewId v f) (IsNewId v q) (λ past e x new. new-same past e x.0 x.1 new) [] (place ss) (both [] (place ss) m a) t in
      subst (Throughout (IsNewId v q) []) (sym placed) (throughout-append (IsNewId v q) [] (place ss) es now u)
