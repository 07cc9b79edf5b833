-- What the quiet of a world and the phases of a line read: the server, the clerks that run, and the messages under way.
use Rattle.std.specs.Prelude.{◌≡◌, ◌≤◌, ℕ, T, Bool, true, false, nat_lt, List, [], ◌∷◌, ◌++◌, Option, None, Some, is_some}
use Rattle.std.specs.List.Sorted.{IsStrictlyIncreasing}
use Rattle.ec_base.specs.Tables.{Table, at, put}
use Rattle.ec_history.specs.History.{Each}
use Rattle.ec_wire.specs.Messages.{kind, kind_byte, middle_byte}
use Rattle.ec_wire.specs.declared.msg.Msg.{Msg}
use Rattle.ec_protocol.specs.Clerk.{Doing}
use Rattle.ec_protocol.specs.Clerk as clerk
use Rattle.ec_protocol.specs.Server as server
use Rattle.ec_protocol.specs.declared.clerk.Clerk.{Clerk}
use Rattle.ec_protocol.specs.declared.clerk.Out.{Out}
use Rattle.ec_protocol.specs.declared.clerk.Out.TheVariants as out
use Rattle.ec_protocol.specs.declared.server.Server.{Server}
use Rattle.ec_protocol.specs.declared.world.Sent.{Sent}
use Rattle.ec_protocol.specs.declared.world.World.{World}

-- messages between clerks and the server, each with its clerk, in the order in which they were sent
abbrev pub Mail : Type 0
Mail = List (ℕ × Msg)

pub record Scene : Type 0 where
  pub server : Server
  pub clerks : Table Clerk
  pub mail : Mail

-- The scene of a world.

abbrev pub letter : Option Sent → Mail
letter None = []
letter (Some s) = (s.clerk, s.msg) ∷ []

-- the messages of these numbers
abbrev pub mail_of : Table Sent → List ℕ → Mail
mail_of pool [] = []
mail_of pool (n ∷ ns) = letter (at n pool) ++ mail_of pool ns

-- The server runs, no record is in doubt and no link is cut; the pending messages are kept, and the next one gets a new number.
pub record IsScene (w : World) (sc : Scene) : Type 0 where
  pub server : w.server ≡ Some sc.server
  pub durable : w.durable ≡ sc.server.durable
  pub sure : w.unshown ≡ None
  pub linked : w.cut ≡ []
  pub clerks : w.clerks ≡ sc.clerks
  pub mail : mail_of w.pool w.pending ≡ sc.mail
  pub kept : Each (λ n. T (is_some (at n w.pool))) w.pending
  pub rising : IsStrictlyIncreasing w.pending
  pub pending : Each (λ n. n ≤ w.sent) w.pending
  pub pool : Each {A = ℕ × Sent} (λ e. e.0 ≤ w.sent) w.pool

-- One delivery.

-- what a clerk sends in a step
abbrev pub sends : ℕ → List Out → Mail
sends c [] = []
sends c (out.Send m ∷ os) = (c, m) ∷ sends c os
sends c (out.Told ns ∷ os) = sends c os
sends c (out.Answer n a op ∷ os) = sends c os
sends c (out.OldBoot a ∷ os) = sends c os

-- the clerk did a step, with these messages under way before
abbrev pub done_by : ℕ → Doing → Mail → Scene → Scene
done_by c d rest sc = record sc { clerks = put c d.clerk sc.clerks; mail = rest ++ sends c d.outs }

-- the server takes a message of the clerk, and these stay under way
abbrev pub served : ℕ → Msg → Mail → Scene → Scene
served c m rest sc = let t = server.take c m sc.server in record sc { server = t.server; mail = rest ++ t.sent }

-- the clerk takes a message; one for a clerk that isn't running vanishes
abbrev pub taken_by : ℕ → Msg → Mail → Option Clerk → Scene → Scene
taken_by c m rest None sc = record sc { mail = rest }
taken_by c m rest (Some k) sc = done_by c (clerk.take m k) rest sc

abbrev pub is_for_server : Msg → Bool
is_for_server m = nat_lt (kind_byte (kind m)) middle_byte

-- the message is delivered, and these stay under way
abbrev pub delivered : ℕ → Msg → Mail → Scene → Scene
delivered c m rest sc = elim (is_for_server m) [ true ↦ served c m rest sc | false ↦ taken_by c m rest (at c sc.clerks) sc ]
