-- A safe server stays safe, step by step and over lists of steps.
use Rattle.std.proofs.Common.{◌≡◌, refl, sym, ap, subst, ◌∙◌, ℕ, T, List, [], ◌∷◌, ◌++◌, Option, Some, None}
use Rattle.std.specs.Prelude.{Result, Ok, Err}
use Rattle.ec_base.specs.declared.counter.Counter.{Counter}
use Rattle.ec_wire.specs.Messages.{is_sound}
use Rattle.ec_wire.specs.declared.msg.Msg.{Msg}
use Rattle.ec_sessions.specs.OfTokens.Laws.{sound_none}
use Rattle.ec_durable.specs.Durable.{step, steps}
use Rattle.ec_durable.specs.WellFormed.{WellFormed}
use Rattle.ec_durable.specs.declared.record.Record.{Record}
use Rattle.ec_durable.specs.declared.record.RecordFault.{RecordFault}
use Rattle.ec_durable.specs.declared.state.Durable.{Durable}
use Rattle.ec_durable.proofs.Batches.{same_Ok, not_Ok}
use Rattle.ec_stands.proofs.Volumes.{step_well}
use Rattle.ec_protocol.specs.Server.{Serving, take, end, start, new_server}
use Rattle.ec_protocol.specs.declared.server.Server.{Server}
use Rattle.ec_machine_laws.specs.OfAppliedOnce.Once.{record_list}
use Rattle.ec_machine_laws.specs.OfAppliedOnce.Safe.{Act, takes, ends, starts, does, server_after, acted}
use Rattle.ec_machine_laws.specs.OfAppliedOnce.SafeServers.{AreSound, records_after, committed, IsSafe, IsSafeBehind}
use Rattle.ec_machine_laws.proofs.OfAppliedOnce.Once.{once}
use Rattle.ec_machine_laws.proofs.OfAppliedOnce.Walk.{Good, Led, Going, take-goes, end-goes, start-goes}

-- One step.

formed : (o : Option Record) (d e : Durable) → Led o d e → WellFormed d → WellFormed e
formed None d e r w = subst WellFormed (sym r) w
formed (Some k) d e r w = step_well k d e w r.1 r.0

stepped : (o : Option Record) (d e : Durable) → Led o d e → steps (record_list o) d ≡ Ok e
stepped None d e r = ap (λ (z : Durable). Ok z) (sym r)
stepped (Some k) d e r = ap (λ (z : Result Durable RecordFault). elim z as (λ y. Result Durable RecordFault) [ Err fault ↦ Err fault | Ok m ↦ Ok m ]) r.0

safe-of : (d : Durable) (t : Serving) → WellFormed d → Going d t → IsSafe t.server
safe-of d t w g = record { tokens = g.0.sound; wants = g.0.held; formed = formed t.rec d t.server.durable g.1 w }

good-of : (v : Server) → IsSafe v → Good v
good-of v h = record { sound = h.tokens; held = h.wants }

pub take-safe : (c : ℕ) (m : Msg) (v : Server) → T (is_sound m) → IsSafe v → IsSafe (take c m v).server
take-safe c m v s h = safe-of v.durable (take c m v) h.formed (take-goes c m v s (good-of v h))

pub end-safe : (c : ℕ) (v : Server) → IsSafe v → IsSafe (end c v).server
end-safe c v h = safe-of v.durable (end c v) h.formed (end-goes c v (good-of v h))

pub start-safe : (d : Durable) → WellFormed d → IsSafe (start d).server
start-safe d w = safe-of d (start d) w (start-goes d)

pub new-safe : (d : Durable) → WellFormed d → IsSafe (new_server d)
new-safe d w = record { tokens = sound_none; wants = tt; formed = w }

-- Lists of steps.

record Led-to (d : Durable) (rs : List Record) (v : Server) : Type 0 where
  safe : IsSafe v
  stepped : steps rs d ≡ Ok v.durable

one-step : (v : Server) (t : Serving) → IsSafe v → Going v.durable t → Led-to v.durable (records_after t) (server_after t v)
one-step v t h g = go t.spent
  where
    go : (o : Option Counter) → Led-to v.durable (elim o as (λ z. List Record) [ None ↦ record_list t.rec | Some n ↦ [] ]) (elim o as (λ z. Server) [ None ↦ t.server | Some n ↦ v ])
    go None = record { safe = safe-of v.durable t h.formed g; stepped = stepped t.rec v.durable t.server.durable g.1 }
    go (Some n) = record { safe = h; stepped = refl }

pub steps-append : (rs ss : List Record) (d m e : Durable) → steps rs d ≡ Ok m → steps ss m ≡ Ok e → steps (rs ++ ss) d ≡ Ok e
steps-append [] ss d m e p q = ap (steps ss) (same_Ok p) ∙ q
steps-append (r ∷ rs) ss d m e p q = go (step r d) p (λ k. steps-append rs ss k m e)
  where
    go : (o : Result Durable RecordFault) → elim o as (λ z. Result Durable RecordFault) [ Err fault ↦ Err fault | Ok k ↦ steps rs k ] ≡ Ok m → ((k : Durable) → steps rs k ≡ Ok m → steps ss m ≡ Ok e → steps (rs ++ ss) k ≡ Ok e)
        → elim o as (λ z. Result Durable RecordFault) [ Err fault ↦ Err fault | Ok k ↦ steps (rs ++ ss) k ] ≡ Ok e
    go (Ok k) p rest = rest k p q
    go (Err fault) p rest = absurd (not_Ok p)

one-more : (a : Act) (more : List Act) (v : Server) → Led-to v.durable (records_after (does a v)) (server_after (does a v) v)
    → ((w : Server) → IsSafe w → Led-to w.durable (committed more w) (acted more w)) → Led-to v.durable (committed (a ∷ more) v) (acted (a ∷ more) v)
one-more a more v one rest =
    let w = server_after (does a v) v in
    let then = rest w one.safe in
    record { safe = then.safe; stepped = steps-append (records_after (does a v)) (committed more w) v.durable w.durable _ one.stepped then.stepped }

all-safe : (acts : List Act) (v : Server) → IsSafe v → AreSound acts → Led-to v.durable (committed acts v) (acted acts v)
all-safe [] v h s = record { safe = h; stepped = refl }
all-safe (takes c m ∷ more) v h s = one-more (takes c m) more v (one-step v (take c m v) h (take-goes c m v s.0 (good-of v h))) (λ w k. all-safe more w k s.1)
all-safe (ends c ∷ more) v h s = one-more (ends c) more v (one-step v (end c v) h (end-goes c v (good-of v h))) (λ w k. all-safe more w k s)
all-safe (starts ∷ more) v h s = one-more starts more v (one-step v (start v.durable) h (start-goes v.durable)) (λ w k. all-safe more w k s)

pub acts-safe : (acts : List Act) (v : Server) → IsSafe v → AreSound acts → IsSafeBehind v.durable (committed acts v) (acted acts v)
acts-safe acts v h s =
    let all = all-safe acts v h s in
    record { safe = all.safe; stepped = all.stepped; once = once (committed acts v) v.durable (acted acts v).durable h.formed.order all.stepped }
