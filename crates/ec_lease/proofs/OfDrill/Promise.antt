-- The lines of a drill with leases are lawful, and legal in printed order.
use Rattle.std.proofs.Common.{◌≡◌, ◌⊎◌, ◌≤◌, ℕ, List, [], ◌∷◌, ◌++◌, Result, Ok, length, map, refl, sym, ap, subst, ◌∙◌, append_assoc, append-nil, arith, inl, inr}
use Rattle.std.proofs.Math.Logic.{∥∥₁_map}
use Rattle.ec_base.specs.declared.counter.Counter.{Counter}
use Rattle.ec_volume.specs.Volume.{Images, images}
use Rattle.ec_history.specs.History.{Each}
use Rattle.ec_history.specs.Placing.{EachLine}
use Rattle.ec_history.specs.declared.shown.Shown.{Shown}
use Rattle.ec_durable.specs.declared.state.Durable.{Durable}
use Rattle.ec_words.specs.Rows.{Word}
use Rattle.ec_words.specs.Words.{words_of}
use Rattle.ec_words.specs.declared.name.Keyword.{Keyword}
use Rattle.ec_words.specs.declared.name.Keyword.TheVariants as keyword
use Rattle.ec_words.proofs.Bounded.{call_bounded}
use Rattle.ec_script.specs.Grammar.{IsLine, Says, Spells}
use Rattle.ec_script.specs.declared.line.Line.{Line as Scripted}
use Rattle.ec_protocol.specs.World.{open_world}
use Rattle.ec_protocol.specs.Drill.{Ending, Done, BadLine, TooMany, IsSpent, Fates, last_line}
use Rattle.ec_protocol.specs.declared.world.World.{World}
use Rattle.ec_world.specs.Steps.{IsWhole}
use Rattle.ec_lease_machine.proofs.OfWords.Cases.{line-cases}
use Rattle.ec_lease_machine.specs.OfWords.Grammar.{IsLeaseLine}
use Rattle.ec_lease_machine.specs.declared.words.line.LeaseLine.{LeaseLine}
use Rattle.ec_lease_machine.specs.declared.words.line.LeaseLine.TheVariants as leased
use Rattle.ec_lease_machine.specs.Drill.{LeaseRead, drill, drill_in, joined_lease, reads, unfit}
use Rattle.ec_lease_machine.specs.OfLeaseWorlds.Lines.{lease_run, unheld}
use Rattle.ec_lease_machine.specs.OfLeaseWorlds.Runs.{AreLeased, IsCallIn, IsFit}
use Rattle.ec_lease_machine.proofs.OfLeaseWorlds.Coming.{unheld-append}
use Rattle.ec_lease_machine.proofs.OfLeaseWorlds.Runs.{runs-leased}
use Rattle.ec_lease_machine.specs.declared.world.LeaseShown.{LeaseShown}
use Rattle.ec_lease_machine.specs.declared.world.LeaseShown.TheVariants.{Line}
use Rattle.ec_lawful.specs.Calls.{IsOf}
use Rattle.ec_lease.specs.OfDrill.Drill.{GivesReads, LeaseOutside, RanAll, RanPart}
use Rattle.ec_lease.specs.OfDrill.Promise.{AreLegalOn, IsLegalRun, SaysEnd}
use Rattle.ec_lease.specs.OfDrill.Script.{AreRead, IsRead, machine_lease}

-- A script that was read is one that a run may begin on.

abbrev IsOne : ℕ → LeaseLine → Type 0
IsOne column l = IsFit (reads (machine_lease l) column)

-- behind a keyword no call stands
after_keyword : (column : ℕ) (k : Keyword) (ws : List Word) (l : Scripted) → Says k ws l → IsOne column (leased.Drill l)
after_keyword column keyword.Push ws l is = subst (λ (x : Scripted). IsOne column (leased.Drill x)) is.1.1 tt
after_keyword column keyword.Cut ws l is = subst (λ (x : Scripted). IsOne column (leased.Drill x)) is.1.1 tt
after_keyword column keyword.Uncut ws l is = subst (λ (x : Scripted). IsOne column (leased.Drill x)) is.1.1 tt
after_keyword column keyword.Drop ws l is = subst (λ (x : Scripted). IsOne column (leased.Drill x)) is.1.1 tt
after_keyword column keyword.Repeat ws l is = subst (λ (x : Scripted). IsOne column (leased.Drill x)) is.1.1 tt
after_keyword column keyword.Deliver ws l is = subst (λ (x : Scripted). IsOne column (leased.Drill x)) is.1.1 tt
after_keyword column keyword.Resend ws l is = subst (λ (x : Scripted). IsOne column (leased.Drill x)) is.1.1 tt
after_keyword column keyword.Crash ws l is = subst (λ (x : Scripted). IsOne column (leased.Drill x)) is.1.1 tt
after_keyword column keyword.End ws l is = subst (λ (x : Scripted). IsOne column (leased.Drill x)) is.1.1 tt
after_keyword column keyword.Stop ws l is = subst (λ (x : Scripted). IsOne column (leased.Drill x)) is.1.1 tt
after_keyword column keyword.Arm ws l is = subst (λ (x : Scripted). IsOne column (leased.Drill x)) is.1.1 tt
after_keyword column keyword.Restart ws l is = subst (λ (x : Scripted). IsOne column (leased.Drill x)) is.1.1 tt

script_fits : (column : ℕ) (bytes : List ℕ) (l : Scripted) → IsLine bytes l → IsOne column (leased.Drill l)
script_fits column bytes l (inl comment) = subst (λ (x : Scripted). IsOne column (leased.Drill x)) (sym comment.1) tt
script_fits column bytes l (inr spells) = by (words_of bytes) spells
  where
    by : (ws : List Word) → Spells ws l → IsOne column (leased.Drill l)
    by [] h = absurd h
    by (w ∷ ws) (inl c, (head, begun)) = subst (λ (x : Scripted). IsOne column (leased.Drill x)) begun.1.1 (head.1, call_bounded ws begun.0 begun.1.0)
    by (w ∷ ws) (inr k, (head, says)) = after_keyword column k ws l says

line_fits : (column e : ℕ) (bytes : List ℕ) (l : LeaseLine) → IsLeaseLine e bytes l → IsOne column l
line_fits column e bytes l is = line-cases (IsOne column) e (λ x bs at. script_fits column bs x at) (λ n low high. tt) (λ c s le. tt) (λ c. tt) (λ c n. tt) bytes l is

read_fits : (e : ℕ) (bytes : List ℕ) (r : LeaseRead) → IsRead e bytes r → IsFit r
read_fits e bytes (reads l column) is = subst (λ m. IsFit (reads m column)) (sym is.2) (line_fits column e bytes is.0 is.1)
read_fits e bytes (unfit column) is = tt

fit_reads : (e : ℕ) (bs : List (List ℕ)) (rs : List LeaseRead) → AreRead e bs rs → Each IsFit rs
fit_reads e [] [] are = tt
fit_reads e [] (r ∷ rs) are = absurd are
fit_reads e (b ∷ bs) [] are = absurd are
fit_reads e (b ∷ bs) (r ∷ rs) are = (read_fits e b r are.0, fit_reads e bs rs are.1)

-- A run to its end.

pub few-why : (e : Ending) → length (last_line e) ≤ 1
few-why Done = omega arith
few-why (BadLine number column) = omega arith
few-why (TooMany n) = omega arith
few-why (IsSpent n) = omega arith

pub says-why : (e : Ending) → EachLine SaysEnd (last_line e)
says-why Done = tt
says-why (BadLine number column) = (tt, tt)
says-why (TooMany n) = (tt, tt)
says-why (IsSpent n) = (tt, tt)

run-legal : (l e : ℕ) (rs : List LeaseRead) (fates : List Fates) (d : Durable) → IsWhole d → Each IsFit rs → (start : World) → open_world d ≡ Ok start → ∥ AreLegalOn rs d (drill l e rs fates d).0 ∥₁
run-legal l e rs fates d is fit start opened = ∥∥₁_map is.formed (λ formed.
    let r = lease_run l e rs fates start in
    subst (λ (x : Result World Counter). AreLegalOn rs d (drill_in l e rs fates x).0) (sym opened) (record {
      told = joined_lease r.pieces;
      why = last_line r.ending;
      written = refl;
      at_most_one = few-why r.ending;
      says = says-why r.ending;
      leased = runs-leased d formed is.slots is.from_one rs start opened l e fates fit;
    }))

-- A front of its lines.

first-lines : (P : Shown → Type 0) (xs ys : List Shown) → EachLine P (xs ++ ys) → EachLine P xs
first-lines P [] ys each = tt
first-lines P (x ∷ xs) ys each = (each.0, first-lines P xs ys each.1)

front-leased : (rs : List LeaseRead) (v : Images) (most : ℕ) (xs ys : List Shown) → AreLeased rs v most (xs ++ ys) → AreLeased rs v most xs
front-leased rs v most xs ys a = record {
  own = first-lines (IsOf (IsCallIn rs)) xs ys a.own;
  top = a.top;
  greatest = a.greatest;
  lawful = λ front rest q. a.lawful front (rest ++ ys) (sym (append_assoc front rest ys) ∙ ap (λ z. z ++ ys) q);
  legal = λ front rest q. a.legal front (rest ++ ys) (sym (append_assoc front rest ys) ∙ ap (λ z. z ++ ys) q);
}

module _ {A : Type 0} where
  parts-are : (x y : A) (xs ys : List A) → x ∷ xs ≡ y ∷ ys → (x ≡ y) × (xs ≡ ys)
  parts-are x y xs ys e = (cc, cc)

  nil-not : (x : A) (xs : List A) → x ∷ xs ≡ [] → ⊥
  nil-not x xs e = cc

  none-first : (xs ys : List A) → xs ++ ys ≡ [] → xs ≡ []
  none-first [] ys e = refl
  none-first (x ∷ xs) ys e = absurd (nil-not x (xs ++ ys) e)

  -- a front of lines and at most one more
  pub split : (xs ys us vs : List A) → xs ++ ys ≡ us ++ vs → length vs ≤ 1 → ((rest : List A) × (us ≡ xs ++ rest)) ⊎ (xs ≡ us ++ vs)
  split [] ys us vs e few = inl (us, refl)
  split (x ∷ xs) ys [] [] e few = absurd (nil-not x (xs ++ ys) e)
  split (x ∷ xs) ys [] (v ∷ []) e few = inr (ap (λ z. z ∷ xs) (parts-are x v (xs ++ ys) [] e).0 ∙ ap (λ z. v ∷ z) (none-first xs ys (parts-are x v (xs ++ ys) [] e).1))
  split (x ∷ xs) ys [] (v ∷ w ∷ vs) e few = absurd (omega (arith, few))
  split (x ∷ xs) ys (u ∷ us) vs e few = by (split xs ys us vs (parts-are x u (xs ++ ys) (us ++ vs) e).1 few)
    where
      same : x ≡ u
      same = (parts-are x u (xs ++ ys) (us ++ vs) e).0

      by : ((rest : List A) × (us ≡ xs ++ rest)) ⊎ (xs ≡ us ++ vs) → ((rest : List A) × (u ∷ us ≡ (x ∷ xs) ++ rest)) ⊎ (x ∷ xs ≡ (u ∷ us) ++ vs)
      by (inl r) = inl (r.0, ap (λ z. z ∷ us) (sym same) ∙ ap (λ z. x ∷ z) r.1)
      by (inr r) = inr (ap (λ z. z ∷ xs) same ∙ ap (λ z. u ∷ z) r)

pub as-long : (ss : List Shown) → length (map Line ss) ≤ length ss
as-long [] = omega arith
as-long (s ∷ ss) = let rest = as-long ss in omega (arith, rest)

front-legal : (rs : List LeaseRead) (d : Durable) (shown more : List LeaseShown) → AreLegalOn rs d (shown ++ more) → AreLegalOn rs d shown
front-legal rs d shown more a = by (split shown more a.told (map Line a.why) a.written (let few = as-long a.why in omega (arith, few, a.at_most_one)))
  where
    by : ((rest : List LeaseShown) × (a.told ≡ shown ++ rest)) ⊎ (shown ≡ a.told ++ map Line a.why) → AreLegalOn rs d shown
    by (inl r) = record {
      told = shown;
      why = [];
      written = sym (append-nil shown);
      at_most_one = omega arith;
      says = tt;
      leased = front-leased rs (images d.volume) d.max_objects (unheld shown) (unheld r.0) (subst (λ (ss : List Shown). AreLeased rs (images d.volume) d.max_objects ss) (ap unheld r.1 ∙ unheld-append shown r.0) a.leased);
    }
    by (inr is) = record { told = a.told; why = a.why; written = is; at_most_one = a.at_most_one; says = a.says; leased = a.leased }

-- The drill.

pub fits_given : (e : ℕ) (w : LeaseOutside) (rs : List LeaseRead) → GivesReads e w rs → Each IsFit rs
fits_given e w rs g = fit_reads e _ rs g.read

pub all_legal : (l e number : ℕ) (w : LeaseOutside) (r : RanAll l e number w) → IsLegalRun w r.reads r.state r.shown
all_legal l e number w r clear start opened = subst (λ (ss : List LeaseShown). ∥ AreLegalOn r.reads r.state ss ∥₁) (r.lines clear) (run-legal l e r.reads r.fates r.state (r.opens).whole (fits_given e w r.reads r.given) start opened)

pub part_legal : (l e : ℕ) (w : LeaseOutside) (last : List ℕ) (r : RanPart l e w last) → IsLegalRun w r.reads r.state r.shown
part_legal l e w last r clear start opened =
    let at = r.front clear in
    ∥∥₁_map (run-legal l e r.reads r.fates r.state (r.opens).whole (fits_given e w r.reads r.given) start opened)
    (λ a. front-legal r.reads r.state r.shown (r.unwritten ++ at.0) (subst (λ (ss : List LeaseShown). AreLegalOn r.reads r.state ss) at.1 a))
