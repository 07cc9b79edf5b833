-- Lemmas on the definitions of `Steps` that several proofs cite.
use Rattle.std.proofs.Common.{◌≡◌, subst, ◌<◌, ℕ, false, Some}
use Rattle.std.specs.List.{list_any}
use Rattle.ec_history.specs.Placing.{is_numbered}
use Rattle.ec_plain.specs.declared.call.Call.{Call}
use Rattle.ec_protocol.specs.declared.world.World.{World}
use Rattle.ec_coherence.specs.Steps.{Stands, call_of}
use Rattle.ec_coherence.specs.System.{System}
use Rattle.ec_lawful.specs.Steps.{LineIsNew, IsNewIn}

-- what the system needs of the line
pub new-in : (w : World) (g : System) → Stands w g → (l : ℕ) → IsNewIn w l → LineIsNew g l
new-in w g st l n = record {
  unshown = subst (λ x. list_any (is_numbered l) x ≡ false) st.shown n.unshown;
  unused = subst (λ x. (c m k : ℕ) (cl : Call) → call_of c m x ≡ Some (k, cl) → k < l) st.calls n.unused;
}
