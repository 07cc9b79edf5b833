-- Lines that are written one behind the other, and fronts of them.
use Rattle.std.proofs.Common.{◌≡◌, ◌<◌, ◌≤◌, ◌+◌, ℕ, zero, suc, List, [], ◌∷◌, ◌++◌, length, take, drop, Option, Some, None, refl, sym, ap, subst, ◌∙◌, append_assoc, append-nil, arith, inr}
use Rattle.std.proofs.Math.ListN.{get_or}
use Rattle.std.specs.Io.KnownBytes.{Appends}
use Rattle.ec_base.proofs.Lists.{appends_two}
use Rattle.ec_base.proofs.OutsideLemmas.{rose_later}
use Rattle.ec_lease_machine.specs.OfWords.Text.{lease_text, lease_texts}
use Rattle.ec_lease_machine.specs.Drill.{joined_lease}
use Rattle.ec_lease_machine.specs.declared.world.LeaseShown.{LeaseShown}
use Rattle.ec_lease.specs.OfDrill.Drill.{IsPartOf}
use Rattle.ec_lease.specs.OfDrill.Writing.{CutBy, CutFront, CutLines, CutText, IsCause}
use Rattle.ec_lease.specs.declared.drill.writing.Cut.{Cut}
use Rattle.ec_lease.specs.declared.drill.writing.Cut.TheVariants as cut

pub none_written : (held : Option (List ℕ)) (bytes : List ℕ) → bytes ≡ [] → Appends held held bytes
none_written None bytes is = tt
none_written (Some xs) bytes is = sym (ap (λ t. xs ++ t) is ∙ append-nil xs)

pub texts-append : (xs ys : List LeaseShown) → lease_texts (xs ++ ys) ≡ lease_texts xs ++ lease_texts ys
texts-append [] ys = refl
texts-append (x ∷ xs) ys = ap (λ t. lease_text x ++ t) (texts-append xs ys) ∙ sym (append_assoc (lease_text x) (lease_texts xs) (lease_texts ys))

pub joined-more : (ps qs : List (List LeaseShown)) → joined_lease (ps ++ qs) ≡ joined_lease ps ++ joined_lease qs
joined-more [] qs = refl
joined-more (p ∷ ps) qs = ap (λ l. p ++ l) (joined-more ps qs) ∙ sym (append_assoc p (joined_lease ps) (joined_lease qs))

pub joined-one : (p : List LeaseShown) → joined_lease (p ∷ []) ≡ p
joined-one p = append-nil p

-- the text of pieces, and of one more
pub pieces-text : (ps : List (List LeaseShown)) (p : List LeaseShown) → lease_texts (joined_lease (ps ++ p ∷ [])) ≡ lease_texts (joined_lease ps) ++ lease_texts p
pieces-text ps p = ap lease_texts (joined-more ps (p ∷ []) ∙ ap (λ l. joined_lease ps ++ l) (append-nil p)) ∙ texts-append (joined_lease ps) p

-- the line at a place, between those before and those behind it
pub at_place : (lines : List LeaseShown) (at : ℕ) (first : LeaseShown) → at < length lines → first ≡ get_or lines at first → lines ≡ take at lines ++ first ∷ drop (suc at) lines
at_place [] at first lt is = absurd (omega arith)
at_place (x ∷ lines) zero first lt is = ap (λ y. y ∷ lines) (sym is)
at_place (x ∷ lines) (suc at) first lt is = ap (λ l. x ∷ l) (at_place lines at first (omega arith) is)

-- the text of one line more
pub texts_next : (lines : List LeaseShown) (at : ℕ) (first : LeaseShown) → at < length lines → first ≡ get_or lines at first → lease_texts (take (at + 1) lines) ≡ lease_texts (take at lines) ++ lease_text first
texts_next lines at first lt is = subst (λ (n : ℕ). lease_texts (take n lines) ≡ lease_texts (take at lines) ++ lease_text first) (one at) (go lines at lt is)
  where
    one : (n : ℕ) → suc n ≡ n + 1
    one n = omega arith

    go : (lines : List LeaseShown) (at : ℕ) → at < length lines → first ≡ get_or lines at first → lease_texts (take (suc at) lines) ≡ lease_texts (take at lines) ++ lease_text first
    go [] at lt is = absurd (omega arith)
    go (x ∷ lines) zero lt is = append-nil (lease_text x) ∙ ap lease_text (sym is)
    go (x ∷ lines) (suc at) lt is = ap (λ t. lease_text x ++ t) (go lines at (omega arith) is) ∙ sym (append_assoc (lease_text x) (lease_texts (take at lines)) (lease_text first))

-- what was cut in the middle of lines, the first of which were written
pub cut_within : (c : Cut) (lines : List LeaseShown) (at : ℕ) (held mid now : Option (List ℕ)) (f g h : ℕ) (first : LeaseShown) (more : List LeaseShown) → lines ≡ take at lines ++ first ∷ more → f ≤ g → Appends held mid (lease_texts (take at lines)) → CutText c (lease_text first) mid now g h
    → CutLines c lines held now f h
cut_within c lines at held mid now f g h first more is le before text = record {
  written = take at lines;
  first = first;
  more = more;
  front = is;
  last = text.last;
  bytes = appends_two held mid now _ _ _ before text.bytes refl;
  why = earlier c text.why;
}
  where
    earlier : (c : Cut) → CutBy c (lease_text first) text.last g h → CutBy c (lease_text first) text.last f h
    earlier cut.Disk why = absurd why
    earlier cut.Sink why = (rose_later f g h le why.0, why.1)
    earlier cut.NoMemory why = why

-- Fronts.

-- lines that were cut are a front of these, and of any that follow
pub front_of : (c : Cut) (K : Type 0) (lines all : List LeaseShown) (held now : Option (List ℕ)) (writes later faults after : ℕ) → (K → (more : List LeaseShown) × (all ≡ lines ++ more)) → CutLines c lines held now writes later → CutFront c K all held now writes later faults after
front_of c K lines all held now writes later faults after is text = record {
  last = text.last;
  cause = cause c text.why;
  wrote = record {
    shown = text.written;
    unwritten = text.first ∷ text.more;
    front = λ known. let at = is known in (at.0, at.1 ∙ ap (λ l. l ++ at.0) text.front ∙ append_assoc text.written (text.first ∷ text.more) at.0);
    bytes = text.bytes;
    part = part c text.why;
  };
}
  where
    cause : (c : Cut) → CutBy c (lease_text text.first) text.last writes later → IsCause c text.last writes later faults after
    cause cut.Disk why = absurd why
    cause cut.Sink why = why.0
    cause cut.NoMemory why = tt

    part : (c : Cut) → CutBy c (lease_text text.first) text.last writes later → IsPartOf (text.first ∷ text.more) text.last
    part cut.Disk why = absurd why
    part cut.Sink why = inr why.1
    part cut.NoMemory why = why

-- nothing was written
pub no_front : (c : Cut) (K : Type 0) (all : List LeaseShown) (held : Option (List ℕ)) (writes later faults after : ℕ) → IsCause c [] writes later faults after → CutFront c K all held held writes later faults after
no_front c K all held writes later faults after cause = record {
  last = [];
  cause = cause;
  wrote = record { shown = []; unwritten = []; front = λ known. (all, refl); bytes = none_written held [] refl; part = refl };
}

-- a front behind lines that were written, and before others; what is known of more is known of less
pub front_within : (c : Cut) (K H : Type 0) (before lines all : List LeaseShown) (held mid now : Option (List ℕ)) (writes writes_now later faults faults_now after : ℕ) → writes ≤ writes_now → faults ≤ faults_now
    → Appends held mid (lease_texts before) → (H → K × ((more : List LeaseShown) × (all ≡ before ++ (lines ++ more)))) → CutFront c K lines mid now writes_now later faults_now after → CutFront c H all held now writes later faults after
front_within c K H before lines all held mid now writes writes_now later faults faults_now after le rose bytes is f = record {
  last = f.last;
  cause = earlier c f.cause;
  wrote = record {
    shown = before ++ (f.wrote).shown;
    unwritten = (f.wrote).unwritten;
    front = λ known.
        let at = is known in
        let rest = (f.wrote).front at.0 in (
          rest.0 ++ at.1.0,
          at.1.1 ∙ ap (λ l. before ++ (l ++ at.1.0)) rest.1 ∙ regrouped before (f.wrote).shown (f.wrote).unwritten rest.0 at.1.0,
        );
    bytes = appends_two held mid now _ _ _ bytes (f.wrote).bytes (sym (append_assoc (lease_texts before) (lease_texts (f.wrote).shown) f.last) ∙ ap (λ t. t ++ f.last) (sym (texts-append before (f.wrote).shown)));
    part = (f.wrote).part;
  };
}
  where
    earlier : (c : Cut) → IsCause c f.last writes_now later faults_now after → IsCause c f.last writes later faults after
    earlier cut.Disk cause = (rose_later faults faults_now after rose cause.0, cause.1)
    earlier cut.Sink cause = rose_later writes writes_now later le cause
    earlier cut.NoMemory cause = tt

    regrouped : (a b c d e : List LeaseShown) → a ++ ((b ++ (c ++ d)) ++ e) ≡ (a ++ b) ++ (c ++ (d ++ e))
    regrouped a b c d e = ap (λ l. a ++ l) (append_assoc b (c ++ d) e ∙ ap (λ l. b ++ l) (append_assoc c d e)) ∙ sym (append_assoc a b (c ++ (d ++ e)))
