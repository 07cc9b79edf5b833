-- Ids in store, and refusals for want of room, as contracts name it.
use Rattle.std.specs.Prelude.{◌≡◌, ◌≤◌, ◌+◌, ◌*◌, ℕ, false, List, [], ◌∷◌, length, None, Some, ⊤}
use Rattle.ec_history.specs.History.{Each}
use Rattle.ec_history.specs.declared.entry.Answer.TheVariants as answer
use Rattle.ec_plain.specs.declared.call.Call.{Call}
use Rattle.ec_wire.specs.declared.msg.Msg.{Msg}
use Rattle.ec_wire.specs.declared.msg.Msg.TheVariants as msg
use Rattle.ec_durable.specs.Durable.{is_full}
use Rattle.ec_protocol.specs.Clerk.{begin, push, start, take as take_message}
use Rattle.ec_protocol.specs.Server.{take}
use Rattle.ec_protocol.specs.declared.clerk.Clerk.{Clerk}
use Rattle.ec_protocol.specs.declared.clerk.Out.{Out}
use Rattle.ec_protocol.specs.declared.clerk.Out.TheVariants as out
use Rattle.ec_protocol.specs.declared.clerk.Waiting.{Waiting}
use Rattle.ec_protocol.specs.declared.server.Server.{Server}
use Rattle.ec_lawful.specs.Creates.{creates}
use Rattle.ec_base.specs.Bools.{one_if}

-- Ids in store.

-- how many of these calls make objects
abbrev pub makes_in : List Waiting → ℕ
makes_in [] = 0
makes_in (w ∷ ws) = one_if (creates w.call) + makes_in ws

-- One call waits at most, and the clerk was asked for at most so many objects. Each id that it was given is in store, or was taken by one of those that aren't
-- under way; it has no more than it was given at once; and while it asks for ids the call that waits makes an object.
pub record IsStocked (makes : ℕ) (k : Clerk) : Type 0 where
  pub one : length k.waiting ≤ 1
  pub waits : makes_in k.waiting ≤ makes
  pub ids : 16 * k.got + makes_in k.waiting ≤ length k.ids + makes
  pub few : length k.ids ≤ 16
  pub asks : (n : ℕ) → k.asking ≡ Some n → makes_in k.waiting ≡ length k.waiting

-- Refusals.

-- the message doesn't refuse ids
abbrev pub GrantsRoom : Msg → Type 0
GrantsRoom (msg.NoRoom s e ask live reserved) = ⊥
GrantsRoom _ = ⊤

-- it refuses no call for want of room
abbrev pub HasRoomIn : Out → Type 0
HasRoomIn (out.Send m) = GrantsRoom m
HasRoomIn (out.Answer n (answer.NoRoom live reserved) op) = ⊥
HasRoomIn _ = ⊤

-- ids come where none is left, and aren't refused
abbrev pub ComesWell : Msg → Clerk → Type 0
ComesWell (msg.Ids s e got n first) k = k.ids ≡ []
ComesWell m k = GrantsRoom m

abbrev pub MessagesKeepStock : Type 0
MessagesKeepStock = (makes : ℕ) (m : Msg) (k : Clerk) → ComesWell m k → IsStocked makes k → IsStocked makes (take_message m k).clerk × Each HasRoomIn (take_message m k).outs

-- where none waits, and none is asked for
abbrev pub CallsKeepStock : Type 0
CallsKeepStock = (makes : ℕ) (cl : Call) (k : Clerk) → k.waiting ≡ [] → k.asking ≡ None → IsStocked makes k → IsStocked (makes + one_if (creates cl)) (begin cl k).clerk × Each HasRoomIn (begin cl k).outs

abbrev pub PushesKeepStock : Type 0
PushesKeepStock = (makes n : ℕ) (k : Clerk) → IsStocked makes k → IsStocked makes (push n k).clerk × Each HasRoomIn (push n k).outs

abbrev pub StartsHaveStock : Type 0
StartsHaveStock = (c boot : ℕ) → IsStocked 0 (start c boot).clerk × Each HasRoomIn (start c boot).outs

-- a server refuses ids only to one who asks for them, where all objects that there may be are reserved
abbrev pub IsWellAsked : Msg → Server → Type 0
IsWellAsked (msg.Room s e got ask) v = is_full v.durable ≡ false
IsWellAsked _ v = ⊤

abbrev pub ServersGrantRoom : Type 0
ServersGrantRoom = (c : ℕ) (m : Msg) (v : Server) → IsWellAsked m v → Each {A = ℕ × Msg} (λ s. GrantsRoom s.1) (take c m v).sent
