-- Lines that are written one behind the other.
use Rattle.std.proofs.Common.{◌≡◌, ◌<◌, ◌≤◌, ℕ, zero, suc, List, [], ◌∷◌, ◌++◌, length, take, drop, Option, refl, sym, ap, arith, inr}
use Rattle.std.proofs.Math.ListN.{get_or}
use Rattle.std.specs.Io.KnownBytes.{Appends}
use Rattle.ec_history.specs.declared.shown.Shown.{Shown}
use Rattle.ec_words.specs.OfText.Lines.{shown_text, text_of}
use Rattle.ec_drill.specs.Cuts.{IsPartOf}
use Rattle.ec_drill.specs.Steps.{CutBy, CutText, CutLines, IsCause}
use Rattle.ec_drill.specs.declared.writing.Cut.{Cut}
use Rattle.ec_drill.specs.declared.writing.Cut.TheVariants as cut
use Rattle.ec_base.proofs.OutsideLemmas.{rose_later}
use Rattle.ec_base.proofs.Lists.{appends_two}

-- the line at a place, between those before and those behind it
pub split_at : (lines : List Shown) (at : ℕ) (first : Shown) → at < length lines → first ≡ get_or lines at first → lines ≡ take at lines ++ first ∷ drop (suc at) lines
split_at [] at first lt is = absurd (omega arith)
split_at (x ∷ lines) zero first lt is = ap (λ y. y ∷ lines) (sym is)
split_at (x ∷ lines) (suc at) first lt is = ap (λ l. x ∷ l) (split_at lines at first (omega arith) is)

pub cut_later : (c : Cut) (text last : List ℕ) (f g h : ℕ) → f ≤ g → CutBy c text last g h → CutBy c text last f h
cut_later cut.Disk text last f g h le why = absurd why
cut_later cut.Sink text last f g h le why = (rose_later f g h le why.0, why.1)
cut_later cut.NoMemory text last f g h le why = why

-- what was cut in the middle of lines, the first of which were written
pub cut_lines : (c : Cut) (lines : List Shown) (at : ℕ) (held mid now : Option (List ℕ)) (f g h : ℕ) (first : Shown) (more : List Shown) → lines ≡ take at lines ++ first ∷ more → f ≤ g → Appends held mid (text_of (take at lines)) → CutText c (shown_text first) mid now g h → CutLines c lines held now f h
cut_lines c lines at held mid now f g h first more is le before text =
    record {
      written = take at lines;
      first = first;
      more = more;
      front = is;
      last = text.last;
      bytes = appends_two held mid now _ _ _ before text.bytes refl;
      why = cut_later c (shown_text first) text.last f g h le text.why;
    }

-- the cause, and the part of the line
pub written_cause : (c : Cut) (text last : List ℕ) (writes later faults after : ℕ) → CutBy c text last writes later → IsCause c last writes later faults after
written_cause cut.Disk text last writes later faults after why = absurd why
written_cause cut.Sink text last writes later faults after why = why.0
written_cause cut.NoMemory text last writes later faults after why = tt

pub written_part : (c : Cut) (s : Shown) (more : List Shown) (last : List ℕ) (writes later : ℕ) → CutBy c (shown_text s) last writes later → IsPartOf (s ∷ more) last
written_part cut.Disk s more last writes later why = absurd why
written_part cut.Sink s more last writes later why = inr why.1
written_part cut.NoMemory s more last writes later why = why
