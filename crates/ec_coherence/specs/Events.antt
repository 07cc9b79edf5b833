-- The history: what was shown, kept, covered and owed.
use Rattle.std.specs.Prelude.{◌≡◌, ◌==◌, ◌-◌, ◌+◌, ℕ, T, Bool, false, ◌&&◌, List, [], ◌∷◌, ◌++◌, map, length, Option, None, Some}
use Rattle.std.specs.List.{filter, list_any}
use Rattle.ec_base.specs.declared.ids.Age.{Age}
use Rattle.ec_volume.specs.Update.{operands}
use Rattle.ec_base.specs.Holds.{is_free}
use Rattle.ec_history.specs.History.{History, Op, Each, Throughout, kept, owed, numbers, Covers, of_start, is_one_of, is_entry_of}
use Rattle.ec_history.specs.Legal.{IsLegal, leaves, is_op_of}
use Rattle.ec_history.specs.Placing.{begun, place, watch, ArePlaceable}
use Rattle.ec_history.specs.declared.entry.Entry.{Entry}
use Rattle.ec_history.specs.declared.entry.Entry.TheVariants as entry
use Rattle.ec_protocol.specs.declared.clerk.Clerk.{Clerk}
use Rattle.ec_coherence.specs.System.{System, base_of, is_open, undurable}
use Rattle.ec_coherence.specs.Tokens.{eff, eff_hold, view}

-- a start counted in the transcript, from 1
abbrev pub shown_boot : System → ℕ → ℕ → ℕ
shown_boot g c boot = boot - g.first_boot c

abbrev pub shown_op : System → Op → Op
shown_op g o = record o { boot = shown_boot g o.clerk o.boot }

abbrev pub same_op : Op → Op → Bool
same_op a b = of_start a.clerk a.boot b && of_start b.clerk b.boot a && (a.number == b.number)

-- what was kept before the loss of a clerk that is cut off; of any other clerk there is none
abbrev pub cut_in : System → Option ℕ → Option (List Op)
cut_in g None = None
cut_in g (Some s) = g.ghost.frozen s

-- no session of the start's age has ended, whether its clerk took it or not
abbrev pub IsUncut : System → ℕ → Clerk → Type 0
IsUncut g c k = (s : ℕ) → g.ghost.owner s ≡ Some (c, k.age) → g.ghost.frozen s ≡ None

-- the session's token on each operand is Free
abbrev pub Frees : System → ℕ → Op → Type 0
Frees g s o = Each (λ x. T (is_free (eff_hold (eff (view g) s x)))) (operands o.update)

-- a start that is cut off has a loss and no entry behind it, and owes what it owed before it. Its tokens don't meet the operations kept before its
-- loss that others lost behind it, or may still lose.
pub record CutAgrees (g : System) (c b s : ℕ) (k : Clerk) (ks : List Op) : Type 0 where
  pub before : History
  pub at : ℕ
  pub lost : List ℕ
  pub behind : History
  pub was : g.ghost.history ≡ before ++ (at, entry.Loss c (shown_boot g c b) lost) ∷ behind
  pub keeps : kept (base_of g) before ≡ map (shown_op g) ks
  pub alone : list_any (λ e. is_entry_of c (shown_boot g c b) e.1) behind ≡ false
  pub untold : (watch c g.ghost.shown).untold ≡ Some lost
  pub owes : owed (base_of g) before c (shown_boot g c b) ≡ k.owed
  pub frozen : (t : ℕ) → T (is_open g t) → Each (λ o. T (list_any (λ k. same_op k o) ks) → Frees g s o) (undurable g.ghost t)
  pub later : Each (λ e. (r d f : ℕ) (ms : List ℕ) → e ≡ (r, entry.Loss d f ms) → Each (Frees g s) (filter (is_one_of d f ms) (kept (base_of g) before))) behind

-- of the operations kept before an entry, those of the session that aren't durable now are left alone by it
abbrev pub Untouched : System → ℕ → ℕ × Age → History → ℕ × Entry → Type 0
Untouched g s o h e = T (leaves (base_of g) (kept (base_of g) h) o.0 (filter (is_one_of o.0 (shown_boot g o.0 (o.1).boot) (numbers (undurable g.ghost s))) (kept (base_of g) h)) e)

pub record EventsAgree (g : System) : Type 0 where
  -- the lines place the history, and count the starts
  pub placeable : ArePlaceable [] g.ghost.shown
  pub placed : place g.ghost.shown ≡ g.ghost.history
  pub starts : (c b : ℕ) → g.running c ≡ Some b → (begun (watch c g.ghost.shown)).starts ≡ shown_boot g c b
  pub untold : (c b : ℕ) (k : Clerk) → g.running c ≡ Some b → g.clerks c b ≡ Some k → IsUncut g c k → (watch c g.ghost.shown).untold ≡ None
  -- what is kept, by the clerks' boots
  pub keeps : kept (base_of g) g.ghost.history ≡ map (shown_op g) g.ghost.kept
  -- it's legal
  pub legal : IsLegal (base_of g) g.durable.max_objects g.ghost.history
  -- what each start that isn't cut off owes, and how many operations it issued
  pub owes : (c b : ℕ) (k : Clerk) → g.running c ≡ Some b → g.clerks c b ≡ Some k → IsUncut g c k → owed (base_of g) g.ghost.history c (shown_boot g c b) ≡ k.owed
  pub counts : (c b : ℕ) (k : Clerk) → g.running c ≡ Some b → g.clerks c b ≡ Some k → length (filter (is_op_of c (shown_boot g c b)) g.ghost.history) + 1 ≡ k.log.next
  -- what is covered is durable
  pub covered : Throughout (λ h e. (o : Op) → Covers (base_of g) h e o.clerk (shown_boot g o.clerk o.boot) o.number → T (g.ghost.is_durable o)) [] g.ghost.history
  -- no other clerk touched what an open session may still lose
  pub untouched : (s : ℕ) (o : ℕ × Age) → g.ghost.owner s ≡ Some o → T (is_open g s) → Throughout (Untouched g s o) [] g.ghost.history
  -- of the running starts whose session has ended, also before its clerk took it
  pub cuts : (c b s : ℕ) (k : Clerk) (ks : List Op) → g.running c ≡ Some b → g.clerks c b ≡ Some k → g.ghost.owner s ≡ Some (c, k.age) → g.ghost.frozen s ≡ Some ks → CutAgrees g c b s k ks
