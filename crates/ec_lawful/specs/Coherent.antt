-- When a world is coherent: what its clerks hold under open sessions is what is kept. It's told by the world, by the lines that it has shown, and by the
-- volume at the beginning.
use Rattle.std.specs.Prelude.{◌≡◌, ◌≢◌, ℕ, T, not, List, [], Some}
use Rattle.ec_base.specs.Holds.{clash}
use Rattle.ec_base.specs.Tables.{at}
use Rattle.ec_volume.specs.Volume.{AllReached, Images, Fits, WellFormed, after}
use Rattle.ec_history.specs.History.{Base, History, Op, Throughout, kept, updates}
use Rattle.ec_history.specs.Placing.{place}
use Rattle.ec_history.specs.OfLaws.Renaming.{image_by}
use Rattle.ec_sessions.specs.declared.slot.Slot.{Slot}
use Rattle.ec_durable.specs.Durable.{slot}
use Rattle.ec_cache.specs.declared.state.Held.{Held}
use Rattle.ec_protocol.specs.declared.clerk.Clerk.{Clerk}
use Rattle.ec_protocol.specs.declared.world.World.{World}

-- The licence of an open session is what its running clerk holds: the clerk c runs, and it's in the session that is open in its slot.
pub record HasLicence (w : World) (c : ℕ) (k : Clerk) : Type 0 where
  pub runs : at c w.clerks ≡ Some k
  pub slot_of : Slot
  pub in_slot : slot w.durable c ≡ Some slot_of
  pub is_open : T slot_of.is_open
  pub in_session : k.session ≡ Some slot_of.session

-- Under its licence the clerk c holds this token with this image of the object x.
pub record HoldsToken (w : World) (c x : ℕ) (h : Held) : Type 0 where
  pub clerk : Clerk
  pub licence : HasLicence w c clerk
  pub held : at x clerk.cache.held ≡ Some h

-- the volume that operations leave
abbrev pub left_by : Base → List Op → Images
left_by base ks = after base.volume (updates ks)

-- Two things hold of a coherent world, on this base of histories and with ids of the world read so.
pub record IsCoherent (base : Base) (read : ℕ → ℕ) (w : World) : Type 0 where
  -- no two licences hold conflicting tokens
  pub apart : (c d x : ℕ) (h k : Held) → c ≢ d → HoldsToken w c x h → HoldsToken w d x k → T (not (clash h.hold k.hold))
  -- each image held, with its ids so read, is the object's image in what is kept
  pub images : (c x : ℕ) (h : Held) → HoldsToken w c x h → image_by read h.image ≡ left_by base (kept base (place w.shown)) (read x)

-- These operations fit the base in turn, and leave a well-formed volume; in it each live object is reached from the root by names, where each one of the
-- base is.
pub record IsFitting (base : Base) (ks : List Op) : Type 0 where
  pub fits : Fits base.volume (updates ks)
  pub formed : WellFormed (left_by base ks)
  pub reached : AllReached base.volume → AllReached (left_by base ks)

-- So it is with what is kept at each entry of a history, before the entry, and behind the last one: and so behind each loss.
pub record AreFitting (base : Base) (h : History) : Type 0 where
  pub before : Throughout (λ past e. IsFitting base (kept base past)) [] h
  pub behind : IsFitting base (kept base h)
