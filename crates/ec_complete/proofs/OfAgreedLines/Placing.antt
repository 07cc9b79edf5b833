-- Write-behind with the places of calls as ids.
use Rattle.std.proofs.Common.{◌≡◌, sym, ap, subst, ◌≤◌, ◌+◌, ℕ, T, not, List, [], ◌∷◌, ◌++◌, append-nil}
use Rattle.ec_volume.specs.Image.{is_gone}
use Rattle.ec_volume.specs.Volume.{Images, WellFormed, after}
use Rattle.ec_history.specs.History.{Base, History, Throughout, issued, kept, of_issue, updates}
use Rattle.ec_history.specs.Placing.{begun, place, watch}
use Rattle.ec_history.specs.declared.entry.Entry.{Entry}
use Rattle.ec_history.specs.declared.entry.Entry.TheVariants as entry
use Rattle.ec_history.specs.declared.shown.Shown.{Shown}
use Rattle.ec_history.specs.declared.shown.Shown.TheVariants as show
use Rattle.ec_history.proofs.OfLaws.ForPlacing.Cuts.{throughout-append}
use Rattle.ec_log.specs.declared.state.Asked.{Asked}
use Rattle.ec_history.specs.OfLaws.NewIds.{IsNewId, MayChange}
use Rattle.ec_history.proofs.OfLaws.ForRenamed.Placed as placed
use Rattle.ec_history.proofs.OfLaws.ForRenamed.IdleIds.{Full, Same, begin, full}
use Rattle.ec_protocol.specs.declared.script.Line.{Line}
use Rattle.ec_quiet.specs.OfDeliveries.Closures.{IsInClosureOf, operations}
use Rattle.ec_quiet.specs.OfDeliveries.Scripts.{IsWriteBehind, LineAsks, volume_behind}
use Rattle.ec_complete.proofs.OfAgreedLines.Renamed.{lies-by}

-- Behind all entries the same is kept and issued: a loss that names nothing would stand behind them.
module _ (v : Images) (f q : ℕ → ℕ) (h : History) (t : Throughout (MayChange v f q) [] h) where
  abbrev last : ℕ × Entry
  last = (0, entry.Loss 0 0 [])

  throughout-last : (P : History → ℕ × Entry → Type 0) (past h : History) (e : ℕ × Entry) → Throughout P past (h ++ e ∷ []) → P (past ++ h) e
  throughout-last P past [] e t = subst (λ k. P k e) (sym (append-nil past)) t.0
  throughout-last P past (d ∷ h) e t = subst (λ k. P k e) (Rattle.std.proofs.Common.append_assoc past (d ∷ []) h) (throughout-last P (past ++ d ∷ []) h e t.1)

  pub same-behind : Same v f q h
  same-behind = (throughout-last (Full v f q) [] h last (full v f q [] (h ++ last ∷ []) (begin v f q) tt (throughout-append (MayChange v f q) [] h (last ∷ []) t ((λ w. absurd w), tt)))).1.0

module _ (v : Images) (f : ℕ → ℕ) (n : ℕ) (ss : List Shown) (formed : WellFormed v) (top : (x : ℕ) → T (not (is_gone (v x))) → x ≤ n) (t : Throughout (IsNewId v f) [] (place ss)) where
  abbrev base : Base
  base = record { volume = v; fresh = f }

  abbrev now : Base
  now = placed.now v f n ss formed top t

  abbrev target : Base
  target = placed.target v f n ss formed top t

  same : Same v f (λ p. (placed.m v f n ss formed top t).i (n + p)) (place ss)
  same = same-behind v f (λ p. (placed.m v f n ss formed top t).i (n + p)) (place ss) (placed.changed v f n ss formed top t)

  same-operations : (c : ℕ) → operations now c ss ≡ operations base c ss
  same-operations c = ap (of_issue c (begun (watch c ss)).starts) same.issued

  same-volume : volume_behind now ss ≡ volume_behind base ss
  same-volume = ap (λ ks. after v (updates ks)) same.kept

  lies-now : (l : Line) (c k : ℕ) → (a : Asked) × LineAsks (volume_behind base ss) l c a × IsInClosureOf a (operations base c ss) k → (a : Asked) × LineAsks (volume_behind now ss) l c a × IsInClosureOf a (operations now c ss) k
  lies-now l c k (a, asks, inside) = (a, subst (λ u. LineAsks u l c a) (sym same-volume) asks, subst (λ ops. IsInClosureOf a ops k) (sym (same-operations c)) inside)

  lies-there : (l : Line) (c k : ℕ) → (a : Asked) × LineAsks (volume_behind base ss) l c a × IsInClosureOf a (operations base c ss) k → (a : Asked) × LineAsks (volume_behind target ss) l c a × IsInClosureOf a (operations target c ss) k
  lies-there l c k i = lies-by (placed.m v f n ss formed top t).r (placed.ren v f n ss formed top t) now target (placed.same v f n ss formed top t) (placed.m v f n ss formed top t).i (placed.m v f n ss formed top t).back ss l c k (lies-now l c k i)

  pub placed-behind : (l : Line) (s : Shown) → IsWriteBehind base l ss s → IsWriteBehind target l ss s
  placed-behind l (show.Durable c ns) i = λ k m. lies-there l c k (i k m)
  placed-behind l (show.Waits j c cl) i = tt
  placed-behind l (show.Answered j c cl a op) i = tt
  placed-behind l (show.Ended c ns) i = tt
  placed-behind l (show.Unseen c) i = tt
  placed-behind l (show.Told c ns) i = tt
  placed-behind l (show.Crashed c) i = tt
  placed-behind l show.Stopped i = tt
  placed-behind l show.Started i = tt
  placed-behind l show.Nothing i = tt
  placed-behind l show.Unsettled i = tt
  placed-behind l (show.Bad j k) i = tt
  placed-behind l (show.DiskBad k) i = tt
  placed-behind l (show.Limit j k) i = tt
  placed-behind l (show.Spent j) i = tt
