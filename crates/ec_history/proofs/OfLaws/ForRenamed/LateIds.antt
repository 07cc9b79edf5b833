-- Ids stay new behind a late answer.
use Rattle.std.proofs.Common.{◌≡◌, sym, ap, subst, ◌∙◌, ℕ, false, List, [], ◌∷◌, ◌++◌, append_assoc}
use Rattle.ec_volume.specs.Update.{member}
use Rattle.ec_volume.specs.Volume.{Images, after}
use Rattle.ec_plain.specs.Plain.{plain}
use Rattle.ec_history.specs.History.{Base, Each, History, Op, Throughout, issued, issued_by, kept, kept_next, updates}
use Rattle.ec_history.specs.Legal.{is_making}
use Rattle.ec_history.specs.declared.entry.Entry.{Entry}
use Rattle.ec_history.specs.declared.entry.Entry.TheVariants as entry
use Rattle.ec_history.proofs.OfLaws.ForPlacing.Cuts.{throughout-append, throughout-back, throughout-front}
use Rattle.ec_history.proofs.OfLaws.ForPlacing.More.{issued-step, kept-step}
use Rattle.ec_history.proofs.OfLaws.ForPlacing.Numbers.{each-append, each-back, each-front}
use Rattle.ec_history.specs.OfLaws.Placing.{made_ids}
use Rattle.ec_history.specs.OfLaws.NewIds.{IsNewId, WouldMake}
use Rattle.ec_history.proofs.OfLaws.ForRenamed.Clearing.{Unmade}

module _ (v : Images) (f : ℕ → ℕ) (news : List Op) where
  abbrev base : Base
  base = record { volume = v; fresh = f }

  -- the same is kept, and these operations were issued besides
  pub record Besides (past now : History) : Type 0 where
    pub kept : kept base now ≡ kept base past
    pub issued : (x : ℕ) → Unmade x (issued base past) → Unmade x news → Unmade x (issued base now)

  step : (past now : History) (e : ℕ × Entry) → Besides past now → Besides (past ++ e ∷ []) (now ++ e ∷ [])
  step past now e k = record {
    kept = kept-step base now e ∙ ap (λ ks. kept_next base ks e) k.kept ∙ sym (kept-step base past e);
    issued = λ x a b.
        let both = subst (Unmade x) (issued-step base past e) a in
        subst (Unmade x) (sym (issued-step base now e ∙ ap (λ ks. issued base now ++ issued_by base ks e) k.kept))
        (each-append (λ o. member x (made_ids o.update) ≡ false) (issued base now) (issued_by base (Rattle.ec_history.specs.History.kept base past) e)
        (k.issued x (each-front (λ o. member x (made_ids o.update) ≡ false) (issued base past) (issued_by base (Rattle.ec_history.specs.History.kept base past) e) both) b)
        (each-back (λ o. member x (made_ids o.update) ≡ false) (issued base past) (issued_by base (Rattle.ec_history.specs.History.kept base past) e) both));
  }

  makes-too : (past now : History) (e : ℕ × Entry) → Besides past now → WouldMake base now e → WouldMake base past e
  makes-too past now (p, entry.Call c b l begun cl a op) k w = ap (λ ks. is_making (plain (after v (updates ks)) cl (f p)).update) (sym k.kept) ∙ w
  makes-too past now (p, entry.Loss c b ns) k w = w

  goes-on : (past now h : History) → Besides past now → Throughout (IsNewId v f) past h → Throughout (λ past d. WouldMake base past d → Unmade (f d.0) news) past h → Throughout (IsNewId v f) now h
  goes-on past now [] k t u = tt
  goes-on past now (e ∷ h) k t u = (
    (λ w. let x = makes-too past now e k w in let new = t.0 x in (new.0, k.issued (f e.0) new.1 (u.0 x))),
    goes-on (past ++ e ∷ []) (now ++ e ∷ []) h (step past now e k) t.1 u.1,
  )

pub beside-late : (v : Images) (f : ℕ → ℕ) (h : History) (e : ℕ × Entry) (at c b : ℕ) (ns ms : List ℕ) (more : History) → let base : Base = record { volume = v; fresh = f } in
    kept base (h ++ e ∷ (at, entry.Loss c b ms) ∷ []) ≡ kept base (h ++ (at, entry.Loss c b ns) ∷ [])
    → Throughout (IsNewId v f) [] (h ++ (at, entry.Loss c b ns) ∷ more) → IsNewId v f h e
    → Throughout (λ past d. WouldMake base past d → Unmade (f d.0) (issued_by base (kept base h) e)) (h ++ (at, entry.Loss c b ns) ∷ []) more
    → Throughout (IsNewId v f) [] (h ++ e ∷ (at, entry.Loss c b ms) ∷ more)
beside-late v f h e at c b ns ms more k t new u =
    throughout-append (IsNewId v f) [] h (e ∷ (at, entry.Loss c b ms) ∷ more) (throughout-front (IsNewId v f) [] h ((at, entry.Loss c b ns) ∷ more) t)
    (new, ((λ w. absurd w), goes-on v f news past now more besides (throughout-back (IsNewId v f) [] h ((at, entry.Loss c b ns) ∷ more) t).1 u))
  where
    b0 : Base
    b0 = record { volume = v; fresh = f }

    news : List Op
    news = issued_by b0 (kept b0 h) e

    past : History
    past = h ++ (at, entry.Loss c b ns) ∷ []

    now : History
    now = (h ++ e ∷ []) ++ (at, entry.Loss c b ms) ∷ []

    besides : Besides v f news past now
    besides = record {
      kept = ap (kept b0) (append_assoc h (e ∷ []) ((at, entry.Loss c b ms) ∷ [])) ∙ k;
      issued = λ x a fresh. subst (Unmade x) (sym (issued-step b0 (h ++ e ∷ []) (at, entry.Loss c b ms) ∙ ap (λ os. os ++ []) (issued-step b0 h e)))
          (each-append (λ o. member x (made_ids o.update) ≡ false) (issued b0 h ++ news) [] (each-append (λ o. member x (made_ids o.update) ≡ false) (issued b0 h) news
          (each-front (λ o. member x (made_ids o.update) ≡ false) (issued b0 h) [] (subst (Unmade x) (issued-step b0 h (at, entry.Loss c b ns)) a)) fresh) tt);
    }
