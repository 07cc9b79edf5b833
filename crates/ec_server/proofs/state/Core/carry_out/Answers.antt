use Rattle.std.proofs.Common.{sym, subst, ℕ, List}
use Rattle.std.specs.Prelude.{IsTrue}
use Rattle.ec_base.specs.declared.ids.Hold.{Hold}
use Rattle.ec_sessions.specs.OfTokens.SoundTokens.{is_claim}
use Rattle.ec_server.specs.CallLaws.{sound_ops, sound_claim, IsFromOne}
use Rattle.ec_server.proofs.state.Core.carry_out.Goals as goal

pub flush-requires : goal.flush-requires
flush-requires g c = sound_ops c.args.msg.now c.args.clerk _ _ _ _ c.requires.sound c.in-Flush.is

pub claim-requires-clause-list : goal.claim-requires-clause-list
claim-requires-clause-list g c =
    subst (λ (list : List (ℕ × Hold)). IsTrue (is_claim list)) (sym c.as_slice-tokens.ensures)
    (sound_claim c.args.msg.now _ _ c.in-Claim.list c.requires.sound c.in-Claim.is (subst IsFromOne c.as_slice-tokens.ensures c.read_first.ensures))
