-- What the lines show stays true where the server's slots change and no line is shown.
use Rattle.std.proofs.Common.{◌≡◌, ◌≢◌, sym, ap, subst, ◌∙◌, inl, inr, ℕ, Bool, T, List, Option, Some}
use Rattle.std.proofs.lemmas.Bool.{cases_eq}
use Rattle.ec_base.specs.declared.ids.Age.{Age}
use Rattle.ec_sessions.specs.declared.slot.Slot.{Slot}
use Rattle.ec_wire.specs.declared.msg.Msg.{Msg}
use Rattle.ec_durable.specs.Durable.{slot}
use Rattle.ec_durable.specs.declared.state.Durable.{Durable}
use Rattle.ec_protocol.specs.declared.server.Server.{Server}
use Rattle.ec_coherence.specs.System.{System}
use Rattle.ec_coherence.specs.Events.{shown_boot}
use Rattle.ec_coherence.specs.Watches.{WatchesAgree, still_in}

module _ (g : System) (d : Durable) (v : Option Server) (p : List (ℕ × Msg)) (ow : ℕ → Option (ℕ × Age)) (tk : ℕ → Bool) (gr fi : ℕ → ℕ) (wa : WatchesAgree g) where
  abbrev pub reslotted : System
  reslotted = record g { durable = d; server = v; pool = p; ghost = record (g.ghost) { owner = ow; taken = tk; grants = gr; first = fi } }

  -- one slot changes, and with it neither what may be lost nor which session was shown open
  module _ (c : ℕ) (others : (j : ℕ) → j ≢ c → (slot d j ≡ slot g.durable j) × (still_in reslotted.ghost (slot d j) ≡ still_in g.ghost (slot g.durable j))) (still : still_in reslotted.ghost (slot d c) ≡ still_in g.ghost (slot g.durable c))
      (open_start : (b : ℕ) (sl : Slot) → slot g.durable c ≡ Some sl → T sl.is_open → (so : Slot) × (slot d c ≡ Some so) × T so.is_open × (so.age ≡ sl.age)) where
    pub reslotted-watches : WatchesAgree reslotted
    reslotted-watches e = let w = wa e in record {
      running = w.running;
      early = w.early;
      still = elim (cases_eq e c) [
        | inl q ↦ w.still ∙ subst (λ z. still_in g.ghost (slot g.durable z) ≡ still_in reslotted.ghost (slot d z)) (sym q) (sym still)
        | inr n ↦ w.still ∙ sym (others e n).1
      ];
      unseen = w.unseen;
      open_start = λ b q. let z = w.open_start b q in elim (cases_eq e c) [
        | inl i ↦ let y = open_start b z.0 (ap (slot g.durable) (sym i) ∙ z.1) z.2 in (y.0, ap (slot d) i ∙ y.1, y.2, z.3 ∙ ap (λ a. shown_boot g e a.boot) (sym y.3))
        | inr n ↦ (z.0, (others e n).0 ∙ z.1, z.2, z.3)
      ];
      crashed = w.crashed;
    }

-- Nothing of it is read but the lines, what is kept, and the slots.
pub watches-read : (g : System) (d : Durable) (v : Option Server) (p : List (ℕ × Msg)) → d.sessions ≡ (g.durable).sessions → WatchesAgree g → WatchesAgree (record g { durable = d; server = v; pool = p })
watches-read g d v p same wa e = let w = wa e in record {
  running = w.running;
  early = w.early;
  still = w.still ∙ ap (λ ss. still_in g.ghost (Rattle.ec_sessions.specs.Slots.slot_at ss e)) (sym same);
  unseen = w.unseen;
  open_start = λ b q. let z = w.open_start b q in (z.0, ap (λ ss. Rattle.ec_sessions.specs.Slots.slot_at ss e) same ∙ z.1, z.2, z.3);
  crashed = w.crashed;
}
