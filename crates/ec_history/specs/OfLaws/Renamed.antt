-- Updates, outcomes and histories with their ids renamed.
use Rattle.std.specs.Prelude.{◌≡◌, ℕ, [], ◌∷◌, map, Option, None, Some}
use Rattle.ec_volume.specs.Update.{Above}
use Rattle.ec_volume.specs.Volume.{Images}
use Rattle.ec_volume.specs.declared.update.Update.{Update}
use Rattle.ec_volume.specs.declared.update.Update.TheVariants.{Make, Drop, Move, Put, Len, Mode, Stamp, Order, Shift, Owner}
use Rattle.ec_plain.specs.declared.call.Outcome.{Outcome}
use Rattle.ec_history.specs.History.{Base, Op, Owed}
use Rattle.ec_history.specs.OfLaws.Renaming.{image_by}

abbrev pub option_by : (ℕ → ℕ) → Option ℕ → Option ℕ
option_by r None = None
option_by r (Some o) = Some (r o)

abbrev pub above_by : (ℕ → ℕ) → Above → Above
above_by r [] = []
above_by r (e ∷ up) = (r e.0, e.1) ∷ above_by r up

abbrev pub update_by : (ℕ → ℕ) → Update → Update
update_by r (Make d n o k) = Make (r d) n (r o) k
update_by r (Drop d n o k) = Drop (r d) n (r o) k
update_by r (Move d m n o k v) = Move (r d) m n (r o) k (option_by r v)
update_by r (Put o at bytes inside) = Put (r o) at bytes inside
update_by r (Len o len) = Len (r o) len
update_by r (Mode o m) = Mode (r o) m
update_by r (Stamp o s) = Stamp (r o) s
update_by r (Order os) = Order (map r os)
update_by r (Shift d m e n o k v up) = Shift (r d) m (r e) n (r o) k (option_by r v) (above_by r up)
update_by r (Owner o w) = Owner (r o) w

abbrev pub issued_update_by : (ℕ → ℕ) → Option Update → Option Update
issued_update_by r None = None
issued_update_by r (Some u) = Some (update_by r u)

abbrev pub outcome_by : (ℕ → ℕ) → Outcome → Outcome
outcome_by r o = record { reply = o.reply; update = issued_update_by r o.update; touched = map r o.touched }

abbrev pub op_by : (ℕ → ℕ) → Op → Op
op_by r k = record { clerk = k.clerk; boot = k.boot; number = k.number; place = k.place; update = update_by r k.update }

abbrev pub owed_by : (ℕ → ℕ) → Owed → Owed
owed_by r [] = []
owed_by r (q ∷ qs) = (q.0, r q.1) ∷ owed_by r qs

-- w is v with its ids renamed
abbrev pub IsRenamed : (ℕ → ℕ) → Images → Images → Type 0
IsRenamed r v w = (o : ℕ) → w (r o) ≡ image_by r (v o)

-- the same of bases: the fresh ids are renamed too
pub record AreRenamed (r : ℕ → ℕ) (base other : Base) : Type 0 where
  pub volume : IsRenamed r base.volume other.volume
  pub fresh : (p : ℕ) → other.fresh p ≡ r (base.fresh p)
