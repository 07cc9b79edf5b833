-- The runs of the clerks of several volumes, and what the net has of them.
use Rattle.std.specs.Prelude.{◌≡◌, ◌==◌, ◌<◌, ◌⊎◌, ◌+◌, ℕ, List, [], ◌∷◌, ◌++◌, length, map, if◌then◌else◌, slice_get, Option, Some, None}
use mathlib.Core.List.{IsPrefix}
use Rattle.ec_base.specs.declared.counter.Counter.{Counter}
use Rattle.ec_base.specs.declared.ids.Age.{Age}
use Rattle.ec_plain.specs.Walk.{Path}
use Rattle.ec_plain.specs.declared.call.Call.{Call}
use Rattle.ec_protocol.specs.Clerk.{start}
use Rattle.ec_link.specs.Nets.{Ended}
use Rattle.ec_outs.specs.Outs.{Reply}
use Rattle.ec_clerknode.specs.declared.fault.NodeFault.{NodeFault}
use Rattle.ec_clerknode.specs.declared.fault.NodeFault.TheVariants as fault
use Rattle.ec_clerknode.specs.declared.step.Step.{Step}
use Rattle.ec_clerknode.specs.Run.{told_by, old_boot}
use Rattle.ec_clerknode.specs.Turns.{calls_by, SaidBye}
use Rattle.ec_clerknode.specs.Lanes.{AreReplied, IsFront}
use Rattle.ec_mount.specs.Run.{NetSeen, Ran, Has, Unheard}
use Rattle.ec_mount_words.specs.declared.route.routes.Route.{Route}
use Rattle.ec_mount_table.specs.Rows.{AreSeen, IsNext, IsPart, calls_at, next_at, replies_at, reply_in}
use Rattle.ec_mount_table.specs.declared.script.Row.{Row}
use Rattle.ec_mount_table.specs.declared.seen.Seen.{Seen}

-- of links with the places of their volumes those of one volume, in order
abbrev pub links_at : ℕ → List (ℕ × Ended) → List Ended
links_at place [] = []
links_at place (link ∷ links) = if link.0 == place then link.1 ∷ links_at place links else links_at place links

-- the net as one volume sees it, of whose links these came back
abbrev pub view : ℕ → List (ℕ × Ended) → NetSeen → NetSeen
view place links net = record { faults = net.faults; bad = net.bad; ended = links_at place links }

-- each link is of a place before this one
abbrev pub AreWithin : ℕ → List (ℕ × Ended) → Type 0
AreWithin n [] = Unit {0}
AreWithin n (link ∷ links) = (link.0 < n) × AreWithin n links

-- so it is at each place of a list
abbrev pub Each : {A : Type 0} → List A → (ℕ → A → Type 0) → Type 0
Each {A = A} xs P = (place : ℕ) (x : A) → slice_get xs place ≡ Some x → P place x

-- The clerks of the first volumes, each started with this boot, ran so, each over its own links as the clerk of one mount does. Each link that came
-- back is of one of so many volumes.
pub record RanAll (id boot many : ℕ) (before after : NetSeen) (runs : List (List Step)) : Type 0 where
  pub links : List (ℕ × Ended)
  pub ended : after.ended ≡ before.ended ++ map (λ link. link.1) links
  pub inside : AreWithin many links
  pub each : Each runs (λ place steps. Ran id boot (view place [] before) (view place links after) steps)

-- none was told of a greater age
abbrev pub AreNew : List (List Step) → Type 0
AreNew runs = Each runs (λ place steps. old_boot steps ≡ None)

abbrev pub or_boot : Option Age → Option Age → Option Age
or_boot None other = other
or_boot (Some age) other = Some age

-- the greater age that the first one of them was told that was told one
abbrev pub first_boot : List (List Step) → Option Age
first_boot [] = None
first_boot (steps ∷ runs) = or_boot (old_boot steps) (first_boot runs)

-- one of them has the fault's cause
abbrev pub HasOne : NodeFault → List (List Step) → Type 0
HasOne f runs = (place : ℕ) × (steps : List Step) × (slice_get runs place ≡ Some steps) × Has f steps

-- Just these calls were begun, in order and each once, and have these answers; and then a goodbye was said.
pub record HoldsToEnd (calls : List Call) (steps : List Step) (replies : List Reply) : Type 0 where
  pub begun : calls_by 0 steps ≡ calls
  -- the list behind the last call
  pub synced : List Step
  pub replied : AreReplied 0 synced 0 calls replies
  pub later : IsPrefix synced steps
  pub goodbye : SaidBye 0 synced steps

-- These rows were made, and each volume holds what they ask of it, and what the next call asks of it, or a front of that. One has the fault's cause.
pub record CutOff (table : List Path) (rows : List Row) (mets : List Seen) (replies : List Reply) (f : NodeFault) (runs : List (List Step)) : Type 0 where
  pub done : List Row
  pub rest : List Row
  pub whole : done ++ rest ≡ rows
  pub seen : AreSeen table done mets
  pub to : Option Route
  pub next : IsNext table rest to
  pub shown : IsPart rest to replies
  pub has : HasOne f runs
  pub fronts : Each runs (λ place steps. IsFront 0 [] (calls_at table place done mets ++ next_at table place rest to) [] steps (replies_at place mets ++ reply_in replies place))

-- The clerks of all volumes ran, one of them met the fault, and these answers came before it. None was told of a greater age.
pub record MetOne (id boot : ℕ) (table : List Path) (rows : List Row) (before after : NetSeen) (f : NodeFault) (mets : List Seen) (replies : List Reply) (told : List (List (List ℕ))) : Type 0 where
  pub runs : List (List Step)
  pub many : length runs ≡ length table
  pub ran : RanAll id boot (length table) before after runs
  pub new : AreNew runs
  pub cut : CutOff table rows mets replies f runs
  pub told_is : told ≡ map told_by runs

-- nothing was answered
abbrev pub NothingCame : List Seen → List Reply → Type 0
NothingCame mets replies = (mets ≡ []) × (replies ≡ [])

-- The first so many volumes were reached, whose clerks made no call, and the next one wasn't: the net gave no link, or its links failed or were closed.
pub record ReachedFew (id boot : ℕ) (table : List Path) (before after : NetSeen) (told : List (List (List ℕ))) : Type 0 where
  pub runs : List (List Step)
  pub few : length runs < length table
  pub idle : Each runs (λ place steps. calls_by 0 steps ≡ [])
  pub new : AreNew runs
  pub ran : RanAll id boot (length runs + 1) before after runs
  pub why : ((before.faults < after.faults) × (links_at (length runs) ran.links ≡ [])) ⊎ ((before.bad < after.bad) × Unheard id boot (view (length runs) [] before) (view (length runs) ran.links after))
  pub told_is : told ≡ map told_by runs

-- one volume wasn't reached, or a link failed or was closed
abbrev pub LostOne : ℕ → ℕ → List Path → List Row → NetSeen → NetSeen → List Seen → List Reply → List (List (List ℕ)) → Type 0
LostOne id boot table rows before after mets replies told =
    (NothingCame mets replies × ReachedFew id boot table before after told)
    ⊎ ((before.bad < after.bad) × MetOne id boot table rows before after fault.Net mets replies told)

-- the counter was spent at the start, or in a step of one of the runs
abbrev pub SpendsOne : ℕ → ℕ → List Path → List Row → NetSeen → NetSeen → Counter → List Seen → List Reply → List (List (List ℕ)) → Type 0
SpendsOne id boot table rows before after c mets replies told =
    (((start id boot).spent ≡ Some c) × (after ≡ before) × NothingCame mets replies × (told ≡ [])) ⊎ MetOne id boot table rows before after (fault.Spent c) mets replies told
