-- The bytes that were written, and the parts of a line.
use Rattle.std.proofs.Common.{◌≡◌, ◌≤◌, ◌==◌, ◌⊎◌, ℕ, Bool, true, false, not, T, if◌then◌else◌, List, [], ◌∷◌, ◌++◌, Option, Some, None, refl, sym, subst, ◌∙◌, inl, inr, arith, append-nil}
use Rattle.std.proofs.lemmas.Bool.{eqb-true}
use Rattle.std.specs.Io.KnownBytes.{Appends, Keeps}
use Rattle.ec_volume.specs.Image.{is_gone, new_object}
use Rattle.ec_volume.specs.Update.{root}
use Rattle.ec_volume.specs.Volume.{Images, images}
use Rattle.ec_volume.specs.declared.image.Kind.TheVariants as kind
use Rattle.ec_durable.specs.Durable.{formatted}
use Rattle.ec_history.specs.Placing.{EachLine}
use Rattle.ec_history.specs.declared.shown.Shown.{Shown}
use Rattle.ec_history.specs.declared.shown.Shown.TheVariants as show
use Rattle.ec_words.specs.OfText.Lines.{shown_text, text_of}
use Rattle.ec_lawful.specs.Headline.{IsGreatest}
use Rattle.ec_drill.specs.OfPromise.Left.{SaysWhy}
use Rattle.ec_drill.specs.Cuts.{IsCutFront, IsPartOf}
use Rattle.ec_drill.specs.Drill.{RefusedInPart}
use Rattle.ec_echo.specs.OfNamed.Forms.{outside}
use Rattle.ec_drill.specs.Seen.{Stream, Store}
use Rattle.ec_echo.specs.OfNamed.Told.{BarsRun, EndsEarly, WroteNone}

-- nothing, or a front of a line
abbrev pub IsPart : List ℕ → Type 0
IsPart part = (part ≡ []) ⊎ ((s : Shown) × IsCutFront (shown_text s) part)

pub kept-none : (held now : Option (List ℕ)) → Keeps held now → Appends held now []
kept-none None now k = k
kept-none (Some xs) None k = k
kept-none (Some xs) (Some ys) k = k ∙ sym (append-nil xs)

pub more-none : (held now : Option (List ℕ)) (bs : List ℕ) → Appends held now bs → Appends held now (bs ++ [])
more-none held now bs a = subst (λ xs. Appends held now xs) (sym (append-nil bs)) a

pub is-part : (ss : List Shown) (last : List ℕ) → IsPartOf ss last → IsPart last
is-part [] last p = inl p
is-part (s ∷ ss) last (inl p) = inl p
is-part (s ∷ ss) last (inr p) = inr (s, p)

pub ends-early : (ss : List Shown) → EachLine SaysWhy ss → EachLine EndsEarly ss
ends-early [] each = tt
ends-early (show.Bad n k ∷ ss) each = (tt, ends-early ss each.1)
ends-early (show.Limit n k ∷ ss) each = (tt, ends-early ss each.1)
ends-early (show.Spent n ∷ ss) each = (tt, ends-early ss each.1)
ends-early (show.DiskBad n ∷ ss) each = absurd each.0
ends-early (show.Waits l c cl ∷ ss) each = absurd each.0
ends-early (show.Answered l c cl a op ∷ ss) each = absurd each.0
ends-early (show.Durable c ns ∷ ss) each = absurd each.0
ends-early (show.Ended c ns ∷ ss) each = absurd each.0
ends-early (show.Unseen c ∷ ss) each = absurd each.0
ends-early (show.Told c ns ∷ ss) each = absurd each.0
ends-early (show.Crashed c ∷ ss) each = absurd each.0
ends-early (show.Stopped ∷ ss) each = absurd each.0
ends-early (show.Started ∷ ss) each = absurd each.0
ends-early (show.Nothing ∷ ss) each = absurd each.0
ends-early (show.Unsettled ∷ ss) each = absurd each.0

-- Where no line of a run was written.
module _ (result : ℕ) (source sink : Stream) (store : Store) where
  pub silent-wrote : Keeps sink.bytes sink.bytes_after → WroteNone result sink
  silent-wrote k = record {
    wrote = record { why = []; at_most_one = omega arith; says = tt; part = []; in_part = inl refl; whole = λ five nine. refl; bytes = kept-none sink.bytes sink.bytes_after k };
    bars = tt;
  }

  pub line-wrote : (s : Shown) → EndsEarly s → BarsRun s → Appends sink.bytes sink.bytes_after (shown_text s) → WroteNone result sink
  line-wrote s why bars a = record {
    wrote = record {
      why = s ∷ [];
      at_most_one = omega arith;
      says = (why, tt);
      part = [];
      in_part = inl refl;
      whole = λ five nine. refl;
      bytes = more-none sink.bytes sink.bytes_after (text_of (s ∷ [])) (more-none sink.bytes sink.bytes_after (shown_text s) a);
    };
    bars = (bars, tt);
  }

  pub refused-wrote : ((result ≡ 5 → ⊥) → (result ≡ 9 → ⊥) → ⊥) → RefusedInPart (outside source sink store) → WroteNone result sink
  refused-wrote barred r = record {
    wrote = record { why = []; at_most_one = omega arith; says = tt; part = r.last; in_part = front r.part; whole = λ five nine. absurd (barred five nine); bytes = r.bytes };
    bars = tt;
  }
    where
      front : (r.last ≡ []) ⊎ IsCutFront (shown_text r.line) r.last → IsPart r.last
      front (inl e) = inl e
      front (inr f) = inr (r.line, f)

-- The greatest id of a volume is one, and that of the formatted one is the root's.

pub one-greatest : (v : Images) (a b : ℕ) → IsGreatest v a → IsGreatest v b → a ≡ b
one-greatest v a b one other = omega (arith, other.least a one.lives, one.least b other.lives)

pub formatted-greatest : (most : ℕ) → IsGreatest (images (formatted most).volume) root
formatted-greatest most = record { lives = tt; least = λ x live. alone x (x == root) refl live }
  where
    alone : (x : ℕ) (z : Bool) → (x == root) ≡ z → T (not (is_gone (if z then new_object kind.Dir else images [] x))) → x ≤ root
    alone x true e live = let is : x ≡ root = eqb-true x root e in omega (arith, is)
    alone x false e live = absurd live
