-- What a legal history keeps at each entry.
use Rattle.std.proofs.Common.{◌≤◌, ℕ, T, map, length, List, [], ◌∷◌, ◌++◌}
use Rattle.std.specs.List.{list_all}
use Rattle.ec_history.specs.History.{Base, History, Op, Throughout, kept}
use Rattle.ec_history.specs.Legal.{IsLegal}
use Rattle.ec_history.specs.Placing.{place}
use Rattle.ec_history.specs.declared.entry.Entry.{Entry}
use Rattle.ec_history.specs.declared.shown.Shown.{Shown}
use Rattle.ec_history.proofs.OfLaws.ForPlacing.Places.{places-within, places-distinct}
use Rattle.ec_history.specs.OfLaws.Bases.{AreAtLines, IsBase, LeaveWellFormed, is_bounded_entry}
use Rattle.ec_history.proofs.OfLaws.ForFormed.KeptFormed.{kept-formed, kept-held}
use Rattle.ec_history.proofs.OfLaws.ForFormed.Laws.{kept-reached, call-sound, call-fits}
use Rattle.ec_history.proofs.OfLaws.ForFormed.Keeping.{throughout, placed}
use Rattle.ec_coherence.proofs.ForServer.Tables.{each-map}
use Rattle.ec_lawful.specs.Coherent.{AreFitting, IsFitting}

-- what holds at the beginning and behind each entry holds before each entry
before-each : (P : History → Type 0) (past h : History) → P past → Throughout (λ x e. P (x ++ e ∷ [])) past h → Throughout (λ x e. P x) past h
before-each P past [] p t = tt
before-each P past (e ∷ h) p t = (p, before-each P (past ++ e ∷ []) h t.0 t.1)

turned : (P Q : History → ℕ × Entry → Type 0) → ((x : History) (e : ℕ × Entry) → P x e → Q x e) → (past h : History) → Throughout P past h → Throughout Q past h
turned P Q f past [] t = tt
turned P Q f past (e ∷ h) t = (f past e t.0, turned P Q f (past ++ e ∷ []) h t.1)

module _ (base : Base) (most : ℕ) (ss : List Shown) (is : IsBase base) (bounded : T (list_all (λ e. is_bounded_entry e.1) (place ss))) (legal : IsLegal base most (place ss)) where
  leaves : (ks : List Op) → LeaveWellFormed base ks → IsFitting base ks
  leaves ks l = record { fits = l.fits; formed = l.formed; reached = l.reached }

  lines : AreAtLines (place ss)
  lines = record {
    from_one = each-map (λ p. (1 ≤ p) × (p ≤ length ss)) (λ p. 1 ≤ p) (map (λ e. e.0) (place ss)) (λ p b. b.0) (places-within ss);
    apart = places-distinct ss;
    bounded = bounded;
  }

  pub are-fitting : AreFitting base (place ss)
  are-fitting = record {
    before = before-each (λ x. IsFitting base (kept base x)) [] (place ss) (record { fits = λ o. tt; formed = is.formed; reached = λ r. r })
        (turned (λ x e. LeaveWellFormed base (kept base (x ++ e ∷ []))) (λ x e. IsFitting base (kept base (x ++ e ∷ []))) (λ x e l. leaves (kept base (x ++ e ∷ [])) l) [] (place ss)
        (throughout kept-formed kept-reached call-sound call-fits kept-held base is most (place ss) lines legal));
    behind = leaves (kept base (place ss)) (placed kept-formed kept-reached call-sound call-fits kept-held base is most ss bounded legal);
  }
