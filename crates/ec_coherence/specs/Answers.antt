-- An answer of a clerk, behind the lines so far.
use Rattle.std.specs.Prelude.{◌≡◌, ◌+◌, ℕ, T, not, nat_lt, List, [], ◌∷◌, ◌++◌, map, length, Option, None, Some}
use Rattle.ec_base.specs.Tables.{at, at_or, or_else, put}
use Rattle.ec_volume.specs.Update.{member}
use Rattle.ec_volume.specs.Volume.{Images, after}
use Rattle.ec_volume.specs.declared.image.Image.TheVariants.{Gone}
use Rattle.ec_plain.specs.declared.call.Call.{Call}
use Rattle.ec_history.specs.History.{Base, History, Op, updates, kept, owed}
use Rattle.ec_history.specs.Legal.{IsCall}
use Rattle.ec_history.specs.Placing.{place}
use Rattle.ec_history.specs.declared.entry.Answer.{Answer}
use Rattle.ec_history.specs.declared.entry.Answer.TheVariants as answer
use Rattle.ec_history.specs.declared.entry.Entry.TheVariants as entry
use Rattle.ec_history.specs.declared.shown.Shown.TheVariants.{Answered}
use Rattle.ec_cache.specs.declared.state.CacheState.{CacheState}
use Rattle.ec_cache.specs.declared.state.Held.{Held}
use Rattle.ec_cache.specs.OfReport.Report.{Owed, clear}
use Rattle.ec_cache.specs.OfResolve.Agreement.{Shows}
use Rattle.ec_cache.specs.declared.resolve.verdict.Verdict.{Verdict}
use Rattle.ec_cache.specs.declared.resolve.verdict.Verdict.TheVariants.{Need, Lost, NeedIds, Done}
use Rattle.ec_protocol.specs.Clerk.{first_id}
use Rattle.ec_protocol.specs.declared.clerk.Clerk.{Clerk}
use Rattle.ec_coherence.specs.System.{System, Ghost, seen_ops}
use Rattle.ec_coherence.specs.Events.{IsUncut, cut_in}

-- A call that is answered behind a history.

-- the fresh id, where there is one; 0 stands for none
abbrev pub id_of : Option ℕ → ℕ
id_of fresh = or_else 0 fresh

-- nothing is owed on the object
abbrev pub IsUnowed : Owed → ℕ → Type 0
IsUnowed qs x = T (not (member x (map (λ q. q.1) qs)))

-- The start's clerk shows what the history keeps, and owes what it says; nothing is owed on the id 0.
pub record IsAt (base : Base) (past : History) (c b : ℕ) (k : CacheState) (qs : Owed) (fresh : Option ℕ) : Type 0 where
  pub shows : Shows k fresh (after base.volume (updates (kept base past)))
  pub owes : owed base past c b ≡ qs
  pub no_zero : IsUnowed qs 0

-- The answer may stand behind the history, and the start owes this behind it.
abbrev pub IsAnswered : Base → ℕ → History → ℕ → ℕ → ℕ → ℕ → ℕ → Call → Answer → Option ℕ → Owed → Type 0
IsAnswered base most past c b p l begun cl a op rest = IsCall base most past c b p cl a op × (owed base (past ++ (p, entry.Call c b l begun cl a op) ∷ []) c b ≡ rest)

-- What a clerk sees.

-- the volume that the clerk is to see
abbrev pub seen_by : System → Clerk → Images
seen_by g k = after g.origin (updates (seen_ops (cut_in g k.session) g.ghost.kept))

-- The session of the start's age hasn't ended, so that its clerk sees all that is kept.
pub record IsLive (g : System) (c : ℕ) (k : Clerk) : Type 0 where
  pub uncut : IsUncut g c k
  pub sees_all : cut_in g k.session ≡ None

-- What the clerk holds has the image that it is to see; its ids are of no object there, and nothing is owed on the id 0.
pub record Sees (g : System) (k : Clerk) : Type 0 where
  pub images : (x : ℕ) (h : Held) → at x k.cache.held ≡ Some h → h.image ≡ seen_by g k x
  pub free : (x : ℕ) → T (member x k.ids) → seen_by g k x ≡ Gone
  pub no_zero : IsUnowed k.owed 0

-- the id that its next object gets
abbrev pub fresh_of : Clerk → ℕ
fresh_of k = id_of (first_id k.ids)

-- What a clerk answers by a verdict: the answer, the operation's number, and what it owes behind it.
abbrev pub Gives : ℕ → Clerk → Verdict → Answer → Option ℕ → Owed → Type 0
Gives most k (Need x h) a op rest = ⊥
Gives most k (Lost ns xs) a op rest = (a ≡ answer.Lost ns) × (op ≡ None) × (rest ≡ clear xs k.owed)
Gives most k (NeedIds xs) a op rest = (live : ℕ) × (reserved : ℕ) × (a ≡ answer.NoRoom live reserved) × T (nat_lt most (live + reserved + 16)) × (op ≡ None) × (rest ≡ k.owed)
Gives most k (Done o) a op rest = (a ≡ answer.Reply o.reply) × (op ≡ elim o.update [ None ↦ None | Some u ↦ Some k.log.next ]) × (rest ≡ k.owed)

-- the operation that it issues with it, if any
abbrev pub op_given : ℕ → ℕ → ℕ → Clerk → Verdict → List Op
op_given c b p k (Done o) = elim o.update [ None ↦ [] | Some u ↦ record { clerk = c; boot = b; number = k.log.next; place = p; update = u } ∷ [] ]
op_given c b p k (Need x h) = []
op_given c b p k (Lost ns xs) = []
op_given c b p k (NeedIds xs) = []

-- What the proof keeps behind it.

-- the real ids by places, with one for the next line
abbrev pub based : System → ℕ → Base
based g x = record { volume = g.origin; fresh = λ p. at_or 0 p (put (length g.ghost.shown + 1) x g.ghost.fresh) }

abbrev pub answered_ghost : ℕ → ℕ → Call → Answer → Option ℕ → ℕ → List Op → Ghost → Ghost
answered_ghost c l cl a op x os γ =
    record γ {
      kept = γ.kept ++ os;
      shown = γ.shown ++ Answered l c cl a op ∷ [];
      history = place (γ.shown ++ Answered l c cl a op ∷ []);
      fresh = put (length γ.shown + 1) x γ.fresh;
    }
