-- How a step under way stands in a system. Each small function of the server, of a clerk and of the world keeps that it stands; a whole step then does by
-- composition.
use Rattle.std.specs.Prelude.{◌≡◌, ◌≤◌, ◌⊎◌, ◌==◌, ◌+◌, ℕ, T, Bool, true, false, not, ◌&&◌, ◌||◌, List, [], ◌∷◌, ◌++◌, filter, Option, None, Some, is_some, Ok, Contains}
use Rattle.ec_base.specs.Tables.{Table, at, at_or, put, without, keys}
use Rattle.ec_base.specs.declared.ids.Age.{Age}
use Rattle.ec_volume.specs.Update.{member}
use Rattle.ec_plain.specs.declared.call.Call.{Call}
use Rattle.ec_history.specs.History.{of_start}
use Rattle.ec_history.specs.Placing.{watch}
use Rattle.ec_history.specs.declared.shown.Shown.{Shown}
use Rattle.ec_history.specs.declared.shown.Shown.TheVariants as show
use Rattle.ec_sessions.specs.declared.slot.Slot.{Slot}
use Rattle.ec_wire.specs.declared.msg.Msg.{Msg}
use Rattle.ec_durable.specs.Durable.{step, slot}
use Rattle.ec_durable.specs.declared.state.Durable.{Durable}
use Rattle.ec_durable.specs.declared.record.Record.{Record}
use Rattle.ec_durable.specs.declared.record.Record.TheVariants as record_of
use Rattle.ec_protocol.specs.declared.clerk.Clerk.{Clerk}
use Rattle.ec_protocol.specs.declared.clerk.Out.{Out}
use Rattle.ec_protocol.specs.declared.clerk.Out.TheVariants as out
use Rattle.ec_protocol.specs.declared.world.Noted.{Noted}
use Rattle.ec_protocol.specs.declared.world.World.{World}
use Rattle.ec_protocol.specs.Server.{Serving}
use Rattle.ec_protocol.specs.Clerk.{Doing}
use Rattle.ec_protocol.specs.World.{boot, noted, stepped}
use Rattle.ec_coherence.specs.System.{System, Ghost, is_of, at_session, with_start}
use Rattle.ec_coherence.specs.Tokens.{eff, view}
use Rattle.ec_coherence.specs.Invariant.{Invariant}

-- Lines.

abbrev pub runs : System → ℕ → ℕ → Bool
runs g c b = is_some (g.running c) && (b == g.boots c)

-- the line of a session that ends: a start that crashed before it showed its session has no loss
abbrev pub ended_line : System → ℕ → ℕ → Shown
ended_line g c b = elim (is_some ((watch c g.ghost.shown).open_start) || runs g c b) [ true ↦ show.Ended c ((watch c g.ghost.shown).undurable) | false ↦ show.Unseen c ]

abbrev pub end_lines : System → ℕ → Option Slot → List Shown
end_lines g c None = []
end_lines g c (Some sl) = elim sl.is_open [ true ↦ ended_line g c (sl.age).boot ∷ [] | false ↦ [] ]

-- the lines of a record that becomes durable
abbrev pub record_lines : System → Option Record → List Shown
record_lines g None = []
record_lines g (Some (record_of.Batch c s b ops)) = show.Durable c (keys ops) ∷ []
record_lines g (Some (record_of.Open c age s)) = end_lines g c (slot g.durable c)
record_lines g (Some (record_of.End c s)) = end_lines g c (slot g.durable c)
record_lines g (Some (record_of.Ids c s got x)) = []
record_lines g (Some (record_of.Epoch e)) = []

-- What a record makes of the ghosts.

-- the session's tokens stay as they are, and its undurable operations are lost
abbrev pub end_session : System → ℕ → Ghost → Ghost
end_session g s γ =
    record γ {
      old = λ t x. elim (t == s) [ true ↦ eff (view g) t x | false ↦ γ.old t x ];
      frozen = at_session s (Some γ.kept) γ.frozen;
      kept = filter (λ k. not (is_of (γ.owner s) k && not (γ.is_durable k))) γ.kept;
    }

abbrev pub open_session : ℕ → Age → ℕ → Ghost → Ghost
open_session c age s γ = record γ { owner = at_session s (Some (c, age)) γ.owner }

abbrev pub give_ids : ℕ → ℕ → Ghost → Ghost
give_ids s first γ = record γ { grants = at_session s (γ.grants s + 1) γ.grants; first = at_session s first γ.first }

abbrev pub keep_batch : ℕ → ℕ → List ℕ → Ghost → Ghost
keep_batch c b ns γ = record γ { is_durable = λ o. γ.is_durable o || (of_start c b o && member o.number ns) }

-- The server.

-- a step under way that began in g: the server is as it is now, and what it said was sent
abbrev pub serving_in : Serving → Ghost → System → System
serving_in t γ g = record g { durable = t.server.durable; server = Some t.server; pool = g.pool ++ t.sent; ghost = γ }

-- at most one record was committed, and the durable state is that behind it
abbrev pub Committed : Durable → Option Record → Durable → Type 0
Committed before None now = now ≡ before
Committed before (Some r) now = step r before ≡ Ok now

pub record Under (g : System) (t : Serving) (γ : Ghost) : Type 0 where
  pub committed : Committed g.durable t.rec t.server.durable
  pub shown : γ.shown ≡ g.ghost.shown ++ record_lines g t.rec
  pub invariant : Invariant (serving_in t γ g)

-- a step is refused where a counter is spent; else it stands
abbrev pub Stood : System → Serving → Type 0
Stood g t = T (is_some t.spent) ⊎ ((γ : Ghost) × Under g t γ)

abbrev pub Keeps : (Serving → Serving) → Type 0
Keeps f = (g : System) (t : Serving) → Stood g t → Stood g (f t)

-- A clerk.

abbrev pub sends : ℕ → List Out → List (ℕ × Msg)
sends c [] = []
sends c (out.Send m ∷ os) = (c, m) ∷ sends c os
sends c (out.Told ns ∷ os) = sends c os
sends c (out.Answer n a op ∷ os) = sends c os
sends c (out.OldBoot a ∷ os) = sends c os

abbrev pub call_of : ℕ → ℕ → Table (Table (ℕ × Call)) → Option (ℕ × Call)
call_of c n calls = at n (at_or [] c calls)

abbrev pub less_call : ℕ → ℕ → Table (Table (ℕ × Call)) → Table (Table (ℕ × Call))
less_call c n calls = put c (without n (at_or [] c calls)) calls

-- the calls under way, and the lines shown, behind what came out
abbrev pub calls_after : ℕ → List Out → Table (Table (ℕ × Call)) → Table (Table (ℕ × Call))
calls_after c [] calls = calls
calls_after c (out.Answer n a op ∷ os) calls = calls_after c os (elim (call_of c n calls) [ None ↦ calls | Some l ↦ less_call c n calls ])
calls_after c (out.Send m ∷ os) calls = calls_after c os calls
calls_after c (out.Told ns ∷ os) calls = calls_after c os calls
calls_after c (out.OldBoot a ∷ os) calls = calls_after c os calls

abbrev pub out_lines : ℕ → List Out → Table (Table (ℕ × Call)) → List Shown
out_lines c [] calls = []
out_lines c (out.Answer n a op ∷ os) calls =
    elim (call_of c n calls) [ None ↦ out_lines c os calls | Some l ↦ show.Answered l.0 c l.1 a op ∷ out_lines c os (less_call c n calls) ]
out_lines c (out.Told ns ∷ os) calls = show.Told c ns ∷ out_lines c os calls
out_lines c (out.Send m ∷ os) calls = out_lines c os calls
out_lines c (out.OldBoot a ∷ os) calls = out_lines c os calls

abbrev pub doing_in : ℕ → ℕ → Doing → Ghost → System → System
doing_in c b d γ g = record g { clerks = with_start c b d.clerk g.clerks; calls = calls_after c d.outs g.calls; pool = g.pool ++ sends c d.outs; ghost = γ }

pub record UnderClerk (g : System) (c b : ℕ) (d : Doing) (γ : Ghost) : Type 0 where
  pub runs : g.running c ≡ Some b
  pub shown : γ.shown ≡ g.ghost.shown ++ out_lines c d.outs g.calls
  pub invariant : Invariant (doing_in c b d γ g)

abbrev pub DoesStep : System → ℕ → ℕ → Doing → Type 0
DoesStep g c b d = T (is_some d.spent) ⊎ ((γ : Ghost) × UnderClerk g c b d γ)

abbrev pub ClerkKeeps : (Doing → Doing) → Type 0
ClerkKeeps f = (g : System) (c b : ℕ) (d : Doing) → DoesStep g c b d → DoesStep g c b (f d)

-- The world.

abbrev pub running_clerk : System → ℕ → Option Clerk
running_clerk g c = elim (g.running c) [ None ↦ None | Some b ↦ g.clerks c b ]

-- what a record in doubt is to show
abbrev pub to_show : Durable → Option Record → Option Noted
to_show d None = None
to_show d (Some r) = noted d r

-- what the disk stands for
abbrev pub found : Option Record → Durable → Durable
found None d = d
found (Some r) d = stepped r d

-- A world stands in a system: each node and line is the system's, and what the world still keeps of the pool is in the system's.
pub record Stands (w : World) (g : System) : Type 0 where
  pub server : w.server ≡ g.server
  pub durable : w.durable ≡ record (found g.unshown g.durable) { epoch = w.durable.epoch }
  pub epoch : g.durable.epoch ≤ w.durable.epoch
  pub up : T (is_some g.server) → w.durable ≡ g.durable
  pub unshown : w.unshown ≡ to_show g.durable g.unshown
  pub clerks : (c : ℕ) → at c w.clerks ≡ running_clerk g c
  pub boots : (c : ℕ) → boot c w ≡ g.boots c
  pub calls : w.calls ≡ g.calls
  pub pool : (n c i : ℕ) (m : Msg) → at n w.pool ≡ Some (record { clerk = c; nth = i; msg = m }) → Contains g.pool (c, m)
  pub shown : w.shown ≡ g.ghost.shown

abbrev pub InvariantStands : World → Type 0
InvariantStands w = (g : System) × Invariant g × Stands w g
