-- What holds of the parts that a pool is kept in. No public clause cites this file.
use Rattle.std.specs.Prelude.{◌≡◌, ℕ, ◌+◌, ◌<◌, ◌≤◌, Bool, not, ◌&&◌, ◌||◌, nat_lt, List, [], ◌∷◌, ◌++◌, length, filter, Option, None, Some, is_some, IsTrue, slice_index_or, slice_set}
use Rattle.std.specs.Ordering.{nat_cmp}
use Rattle.std.specs.List.{AllByRecursion}
use Rattle.std.specs.List.Sorted.{IsStrictlySortedBy}
use Rattle.ec_base.specs.Tables.{Table, at, keys}
use Rattle.ec_volume.specs.Update.{member}
use Rattle.ec_wire.specs.Messages.{is_sound}
use Rattle.ec_wire.specs.declared.msg.MsgKind.{MsgKind}
use Rattle.ec_protocol.specs.declared.world.Sent.{Sent}
use Rattle.ec_protocol.specs.World.{is_for_server, kept_messages, count_of, one_more}
use Rattle.ec_protocol.specs.declared.pool.links.Link.{Link}

-- no count is above the number
abbrev pub AreUpTo : ℕ → List ((ℕ × MsgKind) × ℕ) → Type 0
AreUpTo n es = AllByRecursion (λ e. e.1 ≤ n) es

abbrev pub link_of : Sent → Link
link_of s = record { clerk = s.clerk; is_for_server = is_for_server s }

abbrev pub link_to : Option Sent → Option Link
link_to None = None
link_to (Some s) = Some (link_of s)

-- each pending message is kept, with its link
abbrev pub AreLinked : Table Sent → Table Link → Type 0
AreLinked es ps = AllByRecursion (λ p. link_to (at p.0 es) ≡ Some p.1) ps

-- whether the message stays: it's among the last ones, or pending
abbrev pub stays : ℕ → Table Link → ℕ → Bool
stays sent ps n = nat_lt sent (n + kept_messages) || is_some (at n ps)

pub record HoldsSent (sent : ℕ) (counts : List ((ℕ × MsgKind) × ℕ)) (es : Table Sent) (ps : Table Link) (settled : List ℕ) (forgotten room : ℕ) : Type 0 where
  pub counted : AreUpTo sent counts
  pub rises : IsStrictlySortedBy nat_cmp (keys es)
  pub within : (n : ℕ) → IsTrue (is_some (at n es)) → n ≤ sent
  pub sound : (n : ℕ) (s : Sent) → at n es ≡ Some s → IsTrue (is_sound s.msg)
  pub linked : AreLinked es ps
  -- since the last time, only messages that were settled then, or are settled now, cease to stay
  pub known : (n : ℕ) → IsTrue (is_some (at n es)) → IsTrue (stays forgotten ps n || member n settled)
  -- each pending message can be settled
  pub has_room : length settled + length ps ≤ room

-- What a forgetting leaves: each message that stays, and none that wasn't there.
pub record Forgets (sent : ℕ) (ps : Table Link) (old new : Table Sent) : Type 0 where
  pub same : filter (λ e. stays sent ps e.0) new ≡ filter (λ e. stays sent ps e.0) old
  pub staying : (n : ℕ) → IsTrue (stays sent ps n) → at n new ≡ at n old
  pub fewer : (n : ℕ) → IsTrue (is_some (at n new)) → at n new ≡ at n old
  pub rises : IsStrictlySortedBy nat_cmp (keys old) → IsStrictlySortedBy nat_cmp (keys new)

-- whether the link delivers: it isn't cut, and it isn't to a stopped server
abbrev pub passes : List ℕ → Bool → Link → Bool
passes cut running l = not (member l.clerk cut) && (not l.is_for_server || running)

-- The count of the kind is at this place, or there is none yet.
pub record CountsAt (c : ℕ) (k : MsgKind) (es : List ((ℕ × MsgKind) × ℕ)) (i : ℕ) : Type 0 where
  pub within : i < length es
  pub count : (d : (ℕ × MsgKind) × ℕ) → count_of c k es ≡ (slice_index_or es i d).1
  pub more : (d : (ℕ × MsgKind) × ℕ) → one_more c k es ≡ slice_set es i ((c, k), (slice_index_or es i d).1 + 1)

pub record CountsNew (c : ℕ) (k : MsgKind) (es : List ((ℕ × MsgKind) × ℕ)) : Type 0 where
  pub count : count_of c k es ≡ 0
  pub more : one_more c k es ≡ es ++ ((c, k), 1) ∷ []
