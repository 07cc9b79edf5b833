-- A server that came up notes its open sessions, slot by slot.
use Rattle.std.proofs.Common.{◌≡◌, ◌+◌, ◌<◌, ℕ, suc, true, List, ◌∷◌, Option, None, Some, Result, Ok, Err, drop, length, refl, sym, ap, ◌∙◌, arith, drop-cons}
use Rattle.std.specs.Prelude.{OnOk}
use Rattle.std.specs.List.{list_any}
use Rattle.ec_sessions.specs.Slots.{Slots, slot_at}
use Rattle.ec_protocol.specs.Resumes.{open_in, open_session}
use Rattle.ec_protocol.specs.declared.server.Server.{Server}
use Rattle.ec_lease_machine.specs.Leases.{LeaseMoving, is_started, lease, note, note_open, note_slots, noted_if_started}
use Rattle.ec_lease_machine.specs.declared.world.LeaseFault.{LeaseFault}
use Rattle.ec_lease_machine.specs.declared.world.LeaseShown.{LeaseShown}
use Rattle.ec_lease_machine.specs.declared.world.LeaseWorld.{LeaseWorld as State}
use Rattle.ec_lease.specs.Issuing.{note_in}
use Rattle.ec_lease_machine.specs.OfBook.Book.{Booked, with_book}
use Rattle.ec_protocol.specs.declared.world.World.{World}
use Rattle.ec_world.specs.Leases.{HasSlots}
use Rattle.ec_lease.specs.Worlds.{under_way, leased}
use Rattle.ec_lease.specs.declared.world.LeaseWorld.{LeaseWorld}
use Rattle.ec_lease.proofs.Parts.{note_by, noted_by}

-- the slots from this clerk's on
abbrev pub note_from : Option Server → ℕ → State → State
note_from None n x = x
note_from (Some v) n x = note_slots n (drop n v.durable.sessions) x

drop_slot : (n : ℕ) (slots : Slots) → n < length slots → drop n slots ≡ slot_at slots n ∷ drop (n + 1) slots
drop_slot n slots h = let more : suc n ≡ n + 1 = omega arith in drop-cons slots n None h ∙ ap (λ k. slot_at slots n ∷ drop k slots) more

note_one : (n : ℕ) (o : Option ℕ) (x : State) → note_by n x o ≡ note_in n o x
note_one n None x = refl
note_one n (Some s) x = refl

pub notes_next : (v : Option Server) (n : ℕ) (x y q : State) → v ≡ x.world.server → HasSlots v → n < 16 → note_in n (open_session n x.world) x ≡ y → note_from v n x ≡ q → note_from v (n + 1) y ≡ q
notes_next v n x y q server slots within one is = by v slots (open_is v server) is
  where
    open_by : ℕ → Option Server → Option ℕ
    open_by n v = elim v [ None ↦ None | Some v ↦ open_in (slot_at v.durable.sessions n) ]

    open_is : (v : Option Server) → v ≡ x.world.server → open_by n v ≡ open_session n x.world
    open_is v e = ap (open_by n) e

    by : (v : Option Server) → HasSlots v → open_by n v ≡ open_session n x.world → note_from v n x ≡ q → note_from v (n + 1) y ≡ q
    by None slots same is = sym one ∙ ap (λ o. note_in n o x) (sym same) ∙ is
    by (Some v) slots same is =
        let rest = drop (n + 1) v.durable.sessions in
        ap (note_slots (n + 1) rest) (sym one ∙ ap (λ o. note_in n o x) (sym same) ∙ sym (note_one n (open_in (slot_at v.durable.sessions n)) x))
        ∙ sym (ap (λ ss. note_slots n ss x) (drop_slot n v.durable.sessions (omega (arith, within, slots))))
        ∙ is

-- one clerk's
pub notes_one : {A E : Type 0} (r : Result A E) (n c s : ℕ) (w : World) (old new : Booked) → c ≡ n → Some s ≡ open_session c w → OnOk r ((w : World) → note c (lease s (with_book old w)) (with_book old w) ≡ with_book new w) → OnOk r (note_in n (open_session n w) (with_book old w) ≡ with_book new w)
notes_one (Ok a) n c s w old new is opened noted =
    ap (λ k. note_in k (open_session k w) (with_book old w)) (sym is) ∙ ap (λ o. note_in c o (with_book old w)) (sym opened) ∙ noted w
notes_one (Err f) n c s w old new is opened noted = tt

-- behind a step that shows that a server started, or doesn't

pub noted : {A : Type 0} (r : Result A LeaseFault) (x y : LeaseWorld) → list_any is_started x.piece.items ≡ true → y.piece ≡ x.piece → OnOk r (note_open (leased x).world.server (leased x) ≡ leased y) → OnOk r (noted_if_started (under_way x) ≡ under_way y)
noted (Ok a) x y started piece is =
    let to : State → LeaseMoving = λ w. record { world = w; shown = x.piece.items; fault = None } in
    let with_lines : List LeaseShown → LeaseMoving = λ ls. record { world = leased y; shown = ls; fault = None } in
    ap (noted_by (under_way x)) started ∙ ap to is ∙ ap (λ p. with_lines p.items) (sym piece)
noted (Err f) x y started piece is = tt
