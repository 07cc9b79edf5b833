-- The first entry of a history that breaks a rule, and the first rule that it breaks.
use Rattle.std.specs.Prelude.{◌≡◌, ℕ, T, List, [], ◌∷◌, ◌++◌, Option}
use Rattle.std.specs.List.{filter, list_any, list_all}
use Rattle.ec_volume.specs.Volume.{Fits}
use Rattle.ec_plain.specs.declared.call.Call.{Call}
use Rattle.ec_history.specs.History.{Base, History, updates, of_start, is_one_of, outcome, kept, without, Throughout, Each, Covers, due}
use Rattle.ec_history.specs.Legal.{IsNext, IsReported, IsFull, IsReply, IsLegal, is_closed, leaves}
use Rattle.ec_history.specs.declared.entry.Answer.{Answer}
use Rattle.ec_history.specs.declared.entry.Entry.{Entry}
use Rattle.ec_history.specs.declared.entry.Entry.TheVariants as entry
use Rattle.ec_history.specs.declared.rule.Rule.{Rule}
use Rattle.ec_history.specs.declared.rule.Rule.TheVariants as rule

-- This is the first rule that the call breaks behind the history.
abbrev pub BreaksCall : Base → ℕ → History → ℕ → ℕ → ℕ → Call → Answer → Option ℕ → Rule → Type 0
BreaksCall base most past c b p cl a op rule.Number = ¬ (IsNext c b past op)
BreaksCall base most past c b p cl a op rule.Report = IsNext c b past op × ¬ (IsReported (due base past c b p cl) a)
BreaksCall base most past c b p cl a op rule.Room =
    IsNext c b past op × IsReported (due base past c b p cl) a × ¬ (IsFull most (outcome base (kept base past) p cl) a)
BreaksCall base most past c b p cl a op rule.Reply =
    IsNext c b past op × IsReported (due base past c b p cl) a × IsFull most (outcome base (kept base past) p cl) a × ¬ (IsReply (outcome base (kept base past) p cl) a op)
BreaksCall base most past c b p cl a op _ = ⊥

-- The parts of a lawful loss, one by one.

-- each of the operations is kept so far
abbrev pub AreKept : Base → History → ℕ → ℕ → List ℕ → Type 0
AreKept base past c b ns = T (list_all (λ n. list_any (is_one_of c b (n ∷ [])) (kept base past)) ns)

-- no entry covers one of them
abbrev pub AreUncovered : Base → History → ℕ → ℕ → List ℕ → Type 0
AreUncovered base past c b ns = Throughout (λ h e. Each (λ n. ¬ (Covers base h e c b n)) ns) [] past

-- no call of another clerk touched an operand of one that was kept then
abbrev pub AreUntouched : Base → History → ℕ → ℕ → List ℕ → Type 0
AreUntouched base past c b ns = Throughout (λ h e. T (leaves base (kept base h) c (filter (is_one_of c b ns) (kept base h)) e)) [] past

-- no other one of the start that is kept is ordered after one of them
abbrev pub AreClosed : Base → History → ℕ → ℕ → List ℕ → Type 0
AreClosed base past c b ns = T (is_closed (is_one_of c b ns) (filter (of_start c b) (kept base past)))

-- what is left fits
abbrev pub LeaveFitting : Base → History → ℕ → ℕ → List ℕ → Type 0
LeaveFitting base past c b ns = Fits base.volume (updates (without c b ns (kept base past)))

-- This is the first rule that the loss breaks behind the history. A loss that names what isn't kept can't come of a placeable transcript.
abbrev pub BreaksLoss : Base → History → ℕ → ℕ → List ℕ → Rule → Type 0
BreaksLoss base past c b ns rule.Named = ¬ (AreKept base past c b ns)
BreaksLoss base past c b ns rule.Covered = AreKept base past c b ns × ¬ (AreUncovered base past c b ns)
BreaksLoss base past c b ns rule.Touched = AreKept base past c b ns × AreUncovered base past c b ns × ¬ (AreUntouched base past c b ns)
BreaksLoss base past c b ns rule.Closed = AreKept base past c b ns × AreUncovered base past c b ns × AreUntouched base past c b ns × ¬ (AreClosed base past c b ns)
BreaksLoss base past c b ns rule.Fits =
    AreKept base past c b ns × AreUncovered base past c b ns × AreUntouched base past c b ns × AreClosed base past c b ns × ¬ (LeaveFitting base past c b ns)
BreaksLoss base past c b ns _ = ⊥

abbrev pub BreaksEntry : Base → ℕ → History → ℕ × Entry → Rule → Type 0
BreaksEntry base most past (p, entry.Call c b l begun cl a op) r = BreaksCall base most past c b p cl a op r
BreaksEntry base most past (p, entry.Loss c b ns) r = BreaksLoss base past c b ns r

-- The entry of this line is the first that breaks a rule, and this is the first rule that it breaks.
pub record IsFirstEntry (base : Base) (most : ℕ) (h : History) (p : ℕ) (r : Rule) : Type 0 where
  pub before : History
  pub its : Entry
  pub after : History
  pub parts : before ++ (p, its) ∷ after ≡ h
  pub legal : IsLegal base most before
  pub broken : BreaksEntry base most before (p, its) r
