-- The disks of a mirror behind a call: known, alike, and saved.
use Rattle.std.specs.Prelude.{◌≡◌, ◌⊎◌, ℕ, List, [], Bool, true, false, Option, Some, None}
use Rattle.std.proofs.Common.{inl, inr, refl, sym, ◌∙◌, ap}
use Rattle.ec_disk.specs.Disk.{View}
use Rattle.ec_half.specs.Contents.{Content, Rested, AllSynced, synced-rested, IsHalf, HasHeader}
use Rattle.ec_mirror.specs.Joins.{lead}
use Rattle.ec_mirror.specs.Shown.{IsWhole, IsSaved}
use Rattle.ec_mirror.specs.declared.kept.Kept.{Kept}
use Rattle.ec_mirror.specs.declared.kept.Kept.TheVariants as left

pub both_not_first : left.Both ≡ left.First → ⊥
both_not_first e = cc

pub both_not_second : left.Both ≡ left.Second → ⊥
both_not_second e = cc

pub first_not_both : left.First ≡ left.Both → ⊥
first_not_both e = cc

pub first_not_second : left.First ≡ left.Second → ⊥
first_not_second e = cc

pub second_not_both : left.Second ≡ left.Both → ⊥
second_not_both e = cc

pub second_not_first : left.Second ≡ left.First → ⊥
second_not_first e = cc

pub not_clean : true ≡ false → ⊥
not_clean e = cc

pub known-some : (len : Option ℕ) (n : ℕ) → len ≡ Some n → len ≡ None → ⊥
known-some len n is none = clash n (sym none ∙ is)
  where
    clash : (k : ℕ) → ◌≡◌ {A = Option ℕ} None (Some k) → ⊥
    clash k e = cc

pub some-known : (len : Option ℕ) → (len ≡ None → ⊥) → (n : ℕ) × (len ≡ Some n)
some-known None known = absurd (known refl)
some-known (Some n) known = (n, refl)

module _ (told : Type 0) (a b : Content) (m n : Option ℕ) (kept : Kept) where
  pub whole-first : (dirty : Bool) (saved : List ℕ) → kept ≡ left.First → (m ≡ None → ⊥) → (told → dirty ≡ false → a.gives ≡ saved) → IsWhole told kept a b m n dirty saved
  whole-first dirty saved alone known clean = record {
    first_known = λ out none. known none;
    second_known = λ out none. out alone;
    alike = λ is both. absurd (first_not_both (sym alone ∙ both));
    clean = λ is e. ap (λ (k : Kept). (lead k a b).gives) alone ∙ clean is e;
  }

  pub whole-second : (dirty : Bool) (saved : List ℕ) → kept ≡ left.Second → (n ≡ None → ⊥) → (told → dirty ≡ false → b.gives ≡ saved) → IsWhole told kept a b m n dirty saved
  whole-second dirty saved alone known clean = record {
    first_known = λ out none. out alone;
    second_known = λ out none. known none;
    alike = λ is both. absurd (second_not_both (sym alone ∙ both));
    clean = λ is e. ap (λ (k : Kept). (lead k a b).gives) alone ∙ clean is e;
  }

  pub whole-both : (dirty : Bool) (saved : List ℕ) → kept ≡ left.Both → (m ≡ None → ⊥) → (n ≡ None → ⊥) → (told → a.gives ≡ b.gives) → (told → dirty ≡ false → a.gives ≡ saved) → IsWhole told kept a b m n dirty saved
  whole-both dirty saved both first second alike clean = record {
    first_known = λ out none. first none;
    second_known = λ out none. second none;
    alike = λ is e. alike is;
    clean = λ is e. ap (λ (k : Kept). (lead k a b).gives) both ∙ clean is e;
  }

  -- behind a write nothing is said of what is saved
  pub dirty-first : (saved : List ℕ) → kept ≡ left.First → (m ≡ None → ⊥) → IsWhole told kept a b m n true saved
  dirty-first saved alone known = whole-first true saved alone known (λ is e. absurd (not_clean e))

  pub dirty-second : (saved : List ℕ) → kept ≡ left.Second → (n ≡ None → ⊥) → IsWhole told kept a b m n true saved
  dirty-second saved alone known = whole-second true saved alone known (λ is e. absurd (not_clean e))

  pub dirty-both : (saved : List ℕ) → kept ≡ left.Both → (m ≡ None → ⊥) → (n ≡ None → ⊥) → (told → a.gives ≡ b.gives) → IsWhole told kept a b m n true saved
  dirty-both saved both first second alike = whole-both true saved both first second alike (λ is e. absurd (not_clean e))

module _ (told : Type 0) (a b : Content) (m n : Option ℕ) where
  -- calls that leave what reads give
  pub whole-same : (kept : Kept) (c d : Content) (k l : Option ℕ) (dirty : Bool) (saved : List ℕ) → IsWhole told kept a b m n dirty saved → (told → c.gives ≡ a.gives) → (told → d.gives ≡ b.gives) → k ≡ m → l ≡ n → IsWhole told kept c d k l dirty saved
  whole-same kept c d k l dirty saved whole first second one two = record {
    first_known = λ out none. whole.first_known out (sym one ∙ none);
    second_known = λ out none. whole.second_known out (sym two ∙ none);
    alike = λ is e. first is ∙ whole.alike is e ∙ sym (second is);
    clean = λ is e. same kept (first is) (second is) ∙ whole.clean is e;
  }
    where
      same : (by : Kept) → c.gives ≡ a.gives → d.gives ≡ b.gives → (lead by c d).gives ≡ (lead by a b).gives
      same left.Both one two = one
      same left.Leaving one two = two
      same left.First one two = one
      same left.Second one two = two

module _ (told : Type 0) (a b : Content) (kept : Kept) where
  pub saved-first : kept ≡ left.First → (told → a.synced ≡ a.gives) → (told → AllSynced a) → IsSaved told kept a b
  saved-first alone saved synced = record {
    first_saved = λ is out. saved is ∙ sym (ap (λ (k : Kept). (lead k a b).gives) alone);
    second_saved = λ is out. absurd (out alone);
    first_synced = λ is out. synced is;
    second_synced = λ is out. absurd (out alone);
  }

  pub saved-second : kept ≡ left.Second → (told → b.synced ≡ b.gives) → (told → AllSynced b) → IsSaved told kept a b
  saved-second alone saved synced = record {
    first_saved = λ is out. absurd (out alone);
    second_saved = λ is out. saved is ∙ sym (ap (λ (k : Kept). (lead k a b).gives) alone);
    first_synced = λ is out. absurd (out alone);
    second_synced = λ is out. synced is;
  }

  pub saved-both : kept ≡ left.Both → (told → a.synced ≡ a.gives) → (told → b.synced ≡ b.gives) → (told → AllSynced a) → (told → AllSynced b) → (told → a.gives ≡ b.gives) → IsSaved told kept a b
  saved-both both first second all_first all_second alike = record {
    first_saved = λ is out. first is ∙ sym (ap (λ (k : Kept). (lead k a b).gives) both);
    second_saved = λ is out. second is ∙ sym (alike is) ∙ sym (ap (λ (k : Kept). (lead k a b).gives) both);
    first_synced = λ is out. all_first is;
    second_synced = λ is out. all_second is;
  }

-- behind a join, by which of the disks was the source
module _ (told : Type 0) (a b : Content) (m n : Option ℕ) where
  pub whole-by-first : (joined : Bool) (kept : Kept) → (joined ≡ true → kept ≡ left.Both) → (joined ≡ false → kept ≡ left.First) → (m ≡ None → ⊥) → (joined ≡ true → n ≡ None → ⊥) → (joined ≡ true → told → a.gives ≡ b.gives) → IsWhole told kept a b m n true []
  whole-by-first true kept both alone first second alike = dirty-both told a b m n kept [] (both refl) first (second refl) (alike refl)
  whole-by-first false kept both alone first second alike = dirty-first told a b m n kept [] (alone refl) first

  pub whole-by-second : (joined : Bool) (kept : Kept) → (joined ≡ true → kept ≡ left.Both) → (joined ≡ false → kept ≡ left.Second) → (joined ≡ true → m ≡ None → ⊥) → (n ≡ None → ⊥) → (joined ≡ true → told → a.gives ≡ b.gives) → IsWhole told kept a b m n true []
  whole-by-second true kept both alone first second alike = dirty-both told a b m n kept [] (both refl) (first refl) second (alike refl)
  whole-by-second false kept both alone first second alike = dirty-second told a b m n kept [] (alone refl) second

  -- what is saved first
  pub whole-saved : (kept : Kept) (saved : List ℕ) → IsWhole told kept a b m n true [] → (lead kept a b).gives ≡ saved → IsWhole told kept a b m n false saved
  whole-saved kept saved whole is = record { first_known = whole.first_known; second_known = whole.second_known; alike = whole.alike; clean = λ told e. is }

module _ (told : Type 0) (a b : Content) where
  pub saved-by-first : (joined : Bool) (kept : Kept) → (joined ≡ true → kept ≡ left.Both) → (joined ≡ false → kept ≡ left.First) → (told → a.synced ≡ a.gives) → (told → AllSynced a) → (joined ≡ true → told → b.synced ≡ b.gives) → (joined ≡ true → told → AllSynced b) → (joined ≡ true → told → a.gives ≡ b.gives) → IsSaved told kept a b
  saved-by-first true kept both alone saved synced other_saved other_synced alike = saved-both told a b kept (both refl) saved (other_saved refl) synced (other_synced refl) (alike refl)
  saved-by-first false kept both alone saved synced other_saved other_synced alike = saved-first told a b kept (alone refl) saved synced

  pub saved-by-second : (joined : Bool) (kept : Kept) → (joined ≡ true → kept ≡ left.Both) → (joined ≡ false → kept ≡ left.Second) → (told → b.synced ≡ b.gives) → (told → AllSynced b) → (joined ≡ true → told → a.synced ≡ a.gives) → (joined ≡ true → told → AllSynced a) → (joined ≡ true → told → a.gives ≡ b.gives) → IsSaved told kept a b
  saved-by-second true kept both alone saved synced other_saved other_synced alike = saved-both told a b kept (both refl) (other_saved refl) saved (other_synced refl) synced (alike refl)
  saved-by-second false kept both alone saved synced other_saved other_synced alike = saved-second told a b kept (alone refl) saved synced

  -- the same facts by more
  pub saved-for : (more : Type 0) (kept : Kept) → (more → told) → IsSaved told kept a b → IsSaved more kept a b
  saved-for more kept by saved = record {
    first_saved = λ is. saved.first_saved (by is);
    second_saved = λ is. saved.second_saved (by is);
    first_synced = λ is. saved.first_synced (by is);
    second_synced = λ is. saved.second_synced (by is);
  }

  pub saved-rested : (kept : Kept) (c d : Content) → IsSaved told kept a b → (told → Rested a c) → (told → Rested b d) → IsSaved told kept c d
  saved-rested kept c d saved first second = record {
    first_saved = λ is out. (first is).synced ∙ saved.first_saved is out ∙ sym (same kept (first is).gives (second is).gives);
    second_saved = λ is out. (second is).synced ∙ saved.second_saved is out ∙ sym (same kept (first is).gives (second is).gives);
    first_synced = λ is out. synced-rested a c (saved.first_synced is out) (first is);
    second_synced = λ is out. synced-rested b d (saved.second_synced is out) (second is);
  }
    where
      same : (by : Kept) → c.gives ≡ a.gives → d.gives ≡ b.gives → (lead by c d).gives ≡ (lead by a b).gives
      same left.Both one two = one
      same left.Leaving one two = two
      same left.First one two = one
      same left.Second one two = two

pub whole-for : (told more : Type 0) (kept : Kept) (a b : Content) (m n : Option ℕ) (dirty : Bool) (saved : List ℕ) → (more → told) → IsWhole told kept a b m n dirty saved → IsWhole more kept a b m n dirty saved
whole-for told more kept a b m n dirty saved by whole = record { first_known = whole.first_known; second_known = whole.second_known; alike = λ is. whole.alike (by is); clean = λ is. whole.clean (by is) }

-- the header is there where the length is known
pub has-header : (now : View) (n : ℕ) → IsHalf now n → now.may_leave now.gives → HasHeader now
has-header now n half given = half.long now.gives given

-- one of two has failed
pub one-of : (a b : Bool) (P Q : Type 0) → (a ≡ false → b ≡ true) → (a ≡ true → P) → (b ≡ true → Q) → P ⊎ Q
one-of true b P Q other first second = inl (first refl)
one-of false b P Q other first second = inr (second (other refl))
