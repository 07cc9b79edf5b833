-- Where printed order is legal: where no answer but one that needed nothing stands behind the end of its session.
use Rattle.std.specs.Prelude.{◌≡◌, ℕ, false, List, [], ◌∷◌, ◌++◌, Option, None, Some, ⊤}
use Rattle.ec_volume.specs.Volume.{Images}
use Rattle.ec_plain.specs.Plain.{plain}
use Rattle.ec_plain.specs.declared.call.Call.{Call}
use Rattle.ec_plain.specs.declared.call.Outcome.{Outcome}
use Rattle.ec_history.specs.History.{Base}
use Rattle.ec_history.specs.Legal.{IsLegal}
use Rattle.ec_history.specs.Placing.{place, shows, watch}
use Rattle.ec_history.specs.declared.entry.Answer.{Answer}
use Rattle.ec_history.specs.declared.shown.Shown.{Shown}
use Rattle.ec_history.specs.declared.shown.Shown.TheVariants.{Answered}
use Rattle.ec_history.specs.OfLaws.OfPrinted.Printed.{printed}

-- A call whose answer no volume changes: it reads nothing, and issues nothing.
pub record IsBare (cl : Call) (a : Answer) (op : Option ℕ) : Type 0 where
  pub unshown : shows cl a ≡ false
  pub issues : op ≡ None
  pub out : Outcome
  pub everywhere : (v : Images) (fresh : ℕ) → plain v cl fresh ≡ out
  pub touched : out.touched ≡ []

-- An answer stands behind the end of its start's session, before the start is told, only where it's such a one, and nothing was lost.
abbrev pub IsTimely : List Shown → Shown → Type 0
IsTimely past (Answered l c cl a op) = (ns : List ℕ) → (watch c past).untold ≡ Some ns → IsBare cl a op × (ns ≡ [])
IsTimely past _ = ⊤

abbrev pub AreTimely : List Shown → List Shown → Type 0
AreTimely past [] = ⊤
AreTimely past (s ∷ ss) = IsTimely past s × AreTimely (past ++ s ∷ []) ss

-- Of lines alone: where the placing of each front is legal, so is printed order.
abbrev pub TimelyAreLegal : Type 0
TimelyAreLegal = (base : Base) (most : ℕ) (ss : List Shown) → AreTimely [] ss → ((front rest : List Shown) → front ++ rest ≡ ss → IsLegal base most (place front)) → IsLegal base most (printed ss)
