-- Each line number is answered at most once, by the clerk and with the call of its lines.
use Rattle.std.proofs.Common.{◌≡◌, sym, subst, ◌∙◌, ℕ, Bool, true, false, ◌==◌, List, [], ◌∷◌, ◌++◌, Option, append_assoc}
use Rattle.std.specs.Bool.{OnTrue}
use Rattle.ec_plain.specs.declared.call.Call.{Call}
use Rattle.ec_history.specs.Placing.{Agrees, ArePlaceable, EachLine, MayFollow, Unanswered}
use Rattle.ec_history.specs.declared.entry.Answer.{Answer}
use Rattle.ec_history.specs.declared.shown.Shown.{Shown}
use Rattle.ec_history.specs.declared.shown.Shown.TheVariants as show
use Rattle.ec_history.proofs.OfLaws.ForPlacing.Cuts.{placeable-split}
use Rattle.ec_lawful.specs.OfClerkSteps.CallLaws.{IsAnsweredOnce}
use Rattle.ec_lawful.proofs.OfClerkSteps.ForCalls.CallFrames.{lines-append}
use Rattle.ec_base.proofs.Numbers.{turned as flip}

at-line : (P : Shown → Type 0) (xs : List Shown) (s : Shown) (ys : List Shown) → EachLine P (xs ++ s ∷ ys) → P s
at-line P [] s ys h = h.0
at-line P (x ∷ xs) s ys h = at-line P xs s ys h.1

module _ (before : List Shown) (l c : ℕ) (cl : Call) (a : Answer) (op : Option ℕ) where
  abbrev line : Shown
  line = show.Answered l c cl a op

  turned : (k d : ℕ) (dl : Call) → OnTrue (l == k) ((c ≡ d) × (cl ≡ dl)) → OnTrue (k == l) ((d ≡ c) × (dl ≡ cl))
  turned k d dl h = go (l == k) (flip l k) h
    where
      go : (x : Bool) → x ≡ (k == l) → OnTrue x ((c ≡ d) × (cl ≡ dl)) → OnTrue (k == l) ((d ≡ c) × (dl ≡ cl))
      go true e h = subst (λ z. OnTrue z ((d ≡ c) × (dl ≡ cl))) e (sym h.0, sym h.1)
      go false e h = subst (λ z. OnTrue z ((d ≡ c) × (dl ≡ cl))) e tt

  -- a later line agrees, and doesn't answer the number
  later-one : (mid : List Shown) (s : Shown) → MayFollow (before ++ line ∷ mid) s → Agrees l c cl s × Unanswered l s
  later-one mid (show.Waits k d dl) m = (turned k d dl (at-line (Agrees k d dl) before line mid m), tt)
  later-one mid (show.Answered k d dl b oq) m = (turned k d dl (at-line (Agrees k d dl) before line mid m.0), flip k l ∙ at-line (Unanswered k) before line mid m.1)
  later-one mid s m = (tt, tt)

  later : (mid after : List Shown) → ArePlaceable (before ++ line ∷ mid) after → EachLine (Agrees l c cl) after × EachLine (Unanswered l) after
  later mid [] h = (tt, tt)
  later mid (s ∷ after) h =
      let one = later-one mid s h.0 in
      let more = later (mid ++ s ∷ []) after (subst (λ z. ArePlaceable z after) (append_assoc before (line ∷ mid) (s ∷ [])) h.1) in
      ((one.0, more.0), (one.1, more.1))

  pub once : (after : List Shown) → ArePlaceable [] (before ++ line ∷ after) → IsAnsweredOnce l c cl (before ++ after)
  once after h =
      let split = placeable-split before (line ∷ after) h in
      let more = later [] after (split.1).1 in
      record {
        own = lines-append (Agrees l c cl) before after ((split.1).0).0 more.0;
        once = lines-append (Unanswered l) before after ((split.1).0).1 more.1;
      }
