-- Who is at the other end of a link, by what it said.
use Rattle.std.specs.Prelude.{◌≡◌, ℕ, true, false, List, [], ◌∷◌, Option, Some, None}
use Rattle.ec_wire.specs.declared.msg.Msg.{Msg}
use Rattle.ec_wire.specs.declared.msg.Msg.TheVariants as msg
use Rattle.ec_servernode.specs.declared.caller.Caller.{Caller}
use Rattle.ec_servernode.specs.declared.caller.Refusal.{Refusal}

-- a Hello tells its clerk
abbrev pub hello_in : Msg → Option ℕ
hello_in (msg.Hello c age) = Some c
hello_in _ = None

-- Refusals: the server knows a greater age than the Hello's.

abbrev pub refusal_of : Msg → Option Refusal
refusal_of (msg.OldBoot asked greatest) = Some (record { asked = asked; greatest = greatest })
refusal_of _ = None

abbrev pub msg_of : Refusal → Msg
msg_of r = msg.OldBoot r.asked r.greatest

-- a refusal comes first of what is sent
abbrev pub refusal_in : List (ℕ × Msg) → Option Refusal
refusal_in [] = None
refusal_in (x ∷ xs) = refusal_of x.1

-- It goes to the link that asked, and all others to their outboxes.
abbrev pub unless : {A : Type 0} → Option Refusal → A → A → A
unless (Some r) x y = x
unless None x y = y

abbrev pub posted : List (ℕ × Msg) → List (ℕ × Msg)
posted [] = []
posted (x ∷ xs) = unless (refusal_of x.1) xs (x ∷ xs)

-- the clerk of a Hello that isn't refused
abbrev pub accepted : Option Refusal → Option ℕ → Option ℕ
accepted (Some r) hello = None
accepted None hello = hello

-- The other end.

abbrev pub nobody : Caller
nobody = record { clerk = 0; has_greeted = false; refusal = None }

abbrev pub greeted : Option ℕ → Caller → Caller
greeted None k = k
greeted (Some c) k = record k { clerk = c; has_greeted = true }

abbrev pub refused : Option Refusal → Caller → Caller
refused None k = k
refused (Some r) k = record k { refusal = Some r }

-- behind a message
abbrev pub behind : Option ℕ → Option Refusal → Caller → Caller
behind hello refusal k = refused refusal (greeted hello k)

-- a refusal was sent, where there was one
abbrev pub refusal_sent : Caller → Caller
refusal_sent k = record k { refusal = None }

-- this is the refusal that is still to be sent
abbrev pub IsRefusal : Option Refusal → Msg → Type 0
IsRefusal None m = ⊥
IsRefusal (Some r) m = m ≡ msg_of r
