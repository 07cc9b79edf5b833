use Rattle.std.proofs.Common.{not, ap, sym, ◌∙◌, ℕ}
use Rattle.ec_volume.specs.Update.{member}
use Rattle.ec_volume.specs.declared.update.Update.{Update}
use Rattle.ec_log.specs.OfChains.Held.{is_behind}
use Rattle.ec_log.specs.Log.{kept}
use Rattle.ec_log.specs.LogOrder.{is_from}
use Rattle.ec_log.specs.Chosen.{all_rise}
use Rattle.ec_log.proofs.Logs.{behind_part, from_part, kept_none}
use Rattle.ec_log.proofs.Members.{all_rise_without}
use Rattle.ec_log.proofs.log.Log.kept.Goals as goal

pub invariant_of-self : goal.invariant_of-self
invariant_of-self c =
    let left = λ (x : ℕ × Update). not (member x.0 c.as_slice.result.now) in (
      c.self.invariant.0,
      ap (is_from c.self.inside.first) c.settle.ensures ∙ from_part left c.self.inside.first c.self.inside.undurable c.self.invariant.1,
      ap (is_behind c.self.inside.next) c.settle.ensures ∙ behind_part left c.self.inside.next c.self.inside.undurable c.self.invariant.2,
      ap all_rise c.remove.ensures.others ∙ all_rise_without c.args.no c.self.inside.batches c.self.invariant.3,
    )

pub returns-in_default : goal.returns-in_default
returns-in_default c =
    kept_none (record { next = c.self.inside.next; first = c.self.inside.first; undurable = c.self.inside.undurable; batches = c.self.inside.batches; next_batch = c.self.inside.next_batch }) c.args.no c.remove.new.self
    (sym c.remove.ensures.value ∙ c.in_default.is) c.remove.ensures.others
    ∙ ap (λ l. kept c.args.no l) c.self.view_is

pub invariant_of-self-in_default : goal.invariant_of-self-in_default
invariant_of-self-in_default c = (
  c.self.invariant.0,
  c.self.invariant.1,
  c.self.invariant.2,
  ap all_rise c.remove.ensures.others ∙ all_rise_without c.args.no c.self.inside.batches c.self.invariant.3,
)
