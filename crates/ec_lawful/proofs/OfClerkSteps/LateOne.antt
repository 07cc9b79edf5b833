-- One answer of a clerk whose session has ended leaves all facts standing.
use Rattle.std.proofs.Common.{◌≡◌, sym, ap, ◌∙◌, ℕ, not, ◌&&◌, List, Option, Some}
use Rattle.std.specs.List.{filter}
use Rattle.ec_base.specs.Tables.{at}
use Rattle.ec_base.specs.declared.ids.Age.{Age}
use Rattle.ec_volume.specs.Volume.{after}
use Rattle.ec_volume.specs.declared.image.Image.TheVariants.{Gone}
use Rattle.ec_plain.specs.declared.call.Call.{Call}
use Rattle.ec_cache.specs.declared.state.Held.{Held}
use Rattle.ec_history.specs.History.{Covers, Each, Op, numbers, updates}
use Rattle.ec_history.specs.Placing.{MayFollow, place}
use Rattle.ec_history.specs.declared.entry.Answer.{Answer}
use Rattle.ec_history.specs.declared.shown.Shown.TheVariants.{Answered}
use Rattle.ec_protocol.specs.Clerk.{verdict}
use Rattle.ec_protocol.specs.declared.clerk.Clerk.{Clerk}
use Rattle.ec_coherence.specs.System.{System, is_of, seen_ops}
use Rattle.ec_coherence.specs.Events.{CutAgrees, shown_boot}
use Rattle.ec_coherence.specs.ChangeLaws.{IsInIt}
use Rattle.ec_coherence.specs.CommitLaws.{AllAgree}
use Rattle.ec_coherence.specs.Answers.{Gives, based, fresh_of}
use Rattle.ec_coherence.specs.Comes.{entry_next}
use Rattle.ec_lawful.specs.OfClerkSteps.Answering.{Suits, answered_clerk}
use Rattle.ec_lawful.specs.OfClerkSteps.Frees.{FreesAgree}
use Rattle.ec_lawful.specs.OfClerkSteps.Zeros.{ZerosAgree}
use Rattle.ec_lawful.proofs.OfClerkSteps.LateAll as whole
use Rattle.ec_lawful.proofs.OfClerkSteps.LateFits as fits
use Rattle.ec_lawful.proofs.OfClerkSteps.LateNodes.{late-nodes}
use Rattle.ec_lawful.proofs.OfClerkSteps.Live.{there}
use Rattle.ec_lawful.proofs.OfClerkSteps.Zeroless.{left-out}
use Rattle.ec_base.proofs.Options.{none_some}

module _ (g : System) (all : AllAgree g) (zeros : ZerosAgree g) (frees : FreesAgree g) (c s : ℕ) (age : Age) (k : Clerk) (in-it : IsInIt g c s age k) (r : g.running c ≡ Some age.boot) (ks : List Op) (fz : g.ghost.frozen s ≡ Some ks)
    (n l : ℕ) (cl : Call) (a : Answer) (op : Option ℕ) (gives : Gives g.durable.max_objects k (verdict cl k) a op (answered_clerk (verdict cl k) k).owed) (suit : Suits (verdict cl k) k) (line : MayFollow g.ghost.shown (Answered l c cl a op)) where
  abbrev at-start : g.clerks c age.boot ≡ Some k
  at-start = fits.at-start g all zeros frees c s age k in-it r ks fz l cl a op gives line

  abbrev own : g.ghost.owner s ≡ Some (c, k.age)
  own = fits.own g all zeros frees c s age k in-it r ks fz l cl a op gives line

  abbrev pub h : System
  h = whole.h g all zeros c age.boot s k r at-start own ks fz n l cl a op gives suit line

  abbrev pub cut : CutAgrees g c age.boot s k ks
  cut = fits.cut g all zeros frees c s age k in-it r ks fz l cl a op gives line

  seen-none : (x : Held) → at 0 k.cache.held ≡ Some x → x.image ≡ Gone
  seen-none x e = ((all.0).images).licences s 0 k (there g all c s age k in-it) x e ∙ ap (λ z. after g.origin (updates (seen_ops z g.ghost.kept)) 0) fz ∙ left-out 0 (g.origin 0) ks (zeros.frozen s ks fz) ∙ zeros.origin

  pub late-answers : Each (λ m. ¬ (Covers (based g (fresh_of k)) cut.before (entry_next g c age.boot l cl a op) c (shown_boot g c age.boot) m)) cut.lost → cut.lost ≡ numbers (filter (λ o. is_of (g.ghost.owner s) o && not (g.ghost.is_durable o)) ks) → AllAgree h × ZerosAgree h
  late-answers uncovered lost-is = whole.late-all g all zeros c age.boot s k r at-start own ks fz n l cl a op gives suit line seen-none (λ e f. absurd (none_some (sym e ∙ in-it.session)))
      (late-nodes g all c s age k in-it r ks fz n a op (whole.shown g all zeros c age.boot s k r at-start own ks fz n l cl a op gives suit line) (place (whole.shown g all zeros c age.boot s k r at-start own ks fz n l cl a op gives suit line))
      (whole.fresh g all zeros c age.boot s k r at-start own ks fz n l cl a op gives suit line) (whole.calls g all zeros c age.boot s k r at-start own ks fz n l cl a op gives suit line) cl gives suit)
      (fits.late g all zeros frees c s age k in-it r ks fz l cl a op gives line uncovered lost-is)
