use Rattle.std.proofs.Common.{◌≡◌, ap, refl, sym, subst, ◌∙◌, ℕ, Some, List, [], ◌∷◌, ◌++◌}
use Rattle.std.specs.Map.{lookup, values_of, set_value}
use Rattle.indexmap.specs.IndexMap.{insert_entry}
use Rattle.indexmap.proofs.CallerLemmas.{insert_entry-new}
use Rattle.ec_sessions.specs.declared.recall.want.Want.{Want}
use Rattle.ec_sessions.specs.OfRecall.Keys.{IsKeyed, same_key}
use Rattle.ec_sessions.specs.OfRecall.Wants.{noted}
use Rattle.ec_sessions.specs.OfRecall.HeldWants.{NoneFree}
use Rattle.ec_sessions.proofs.OfRecall.KeyLemmas.{held_free, held_noted, again, fresh, noted_found, noted_absent, keyed_again, keyed_push, values-push}
use Rattle.ec_sessions.proofs.recall.recalls.Recalls.want.Goals as goal

-- The want that was there, as it's written back.
found : (c : goal.After-drop-want) → lookup (same_key (c.args.s, c.args.obj)) c.self.inside.wants.entries ≡ Some c.in-Some.want.now
found c = ap (λ k. lookup (same_key k) c.self.inside.wants.entries) (sym c.key_of-key.ensures) ∙ sym c.in-Some.ensures.value

back : goal.After-drop-want → Want
back c = record { session = c.in-Some.want.now.session; obj = c.in-Some.want.now.obj; hold = c.stronger-want.result; told = c.of.result }

written : (c : goal.After-drop-want) → (c.get_mut.follows.lender (back c)).entries ≡ set_value (same_key (c.args.s, c.args.obj)) c.self.inside.wants.entries (again c.args.hold c.in-Some.want.now)
unfolding back
written c =
    let es = c.self.inside.wants.entries in
    (c.get_mut.follows.holds (back c)).0 ∙ ap (λ k. set_value (same_key k) es (back c)) c.key_of-key.ensures
    ∙ (λ i. set_value (same_key (c.args.s, c.args.obj)) es (record { session = c.in-Some.want.now.session; obj = c.in-Some.want.now.obj; hold = c.stronger-want.ensures i; told = (c.of.ensures ∙ c.new.ensures.items) i }))

pub invariant_of-self : goal.invariant_of-self
unfolding back
invariant_of-self c =
    let es = c.self.inside.wants.entries in
    let new = ap values_of (written c) ∙ noted_found c.args.s c.args.obj c.args.hold es c.in-Some.want.now c.self.invariant.0 (found c) in (
      subst IsKeyed (sym (written c)) (keyed_again c.args.s c.args.obj c.args.hold es c.in-Some.want.now c.self.invariant.0 (found c)),
      (c.get_mut.follows.holds (back c)).4,
      subst NoneFree (sym new) (held_noted c.args.s c.args.obj c.args.hold (values_of es) (held_free c.args.hold c.requires) c.self.invariant.2),
    )

pub returns-in-Some-clause-ok : goal.returns-in-Some-clause-ok
unfolding back
returns-in-Some-clause-ok c =
    ap values_of (written c) ∙ noted_found c.args.s c.args.obj c.args.hold c.self.inside.wants.entries c.in-Some.want.now c.self.invariant.0 (found c) ∙ ap (noted c.args.s c.args.obj c.args.hold) c.self.view_is

-- A want that wasn't there, as it goes last.
added : (c : goal.Joined-branch-2) → c.insert.new.self.entries ≡ c.self.inside.wants.entries ++ ((c.args.s, c.args.obj), fresh c.args.s c.args.obj c.args.hold) ∷ []
added c =
    let es = c.self.inside.wants.entries in
    let key : c.key_of-key.result ≡ (c.args.s, c.args.obj) = c.key_of-key.ensures in
    let made : (told : List (ℕ × ℕ)) → Want = λ told. record { session = c.args.s; obj = c.args.obj; hold = c.args.hold; told = told } in
    c.in_ok-insert.ensures.entries ∙ ap (λ m. insert_entry same_key m.entries c.key_of-key.result (made c.of-2.result)) c.get_mut.follows.holds-at-none
    ∙ insert_entry-new same_key c.self.inside.wants c.key_of-key.result (made c.of-2.result) (sym c.in_default.ensures.value)
    ∙ ap (λ k. es ++ (k, made c.of-2.result) ∷ []) key ∙ ap (λ told. es ++ ((c.args.s, c.args.obj), made told) ∷ []) (c.of-2.ensures ∙ c.new-2.ensures.items)

absent : (c : goal.Joined-branch-2) → values_of c.insert.new.self.entries ≡ noted c.args.s c.args.obj c.args.hold (values_of c.self.inside.wants.entries)
absent c = ap values_of (added c) ∙ values-push c.self.inside.wants.entries _ _ ∙ sym (noted_absent c.args.s c.args.obj c.args.hold c.self.inside.wants.entries c.self.invariant.0 (ap (λ k. lookup (same_key k) c.self.inside.wants.entries) (sym c.key_of-key.ensures) ∙ sym c.in_default.ensures.value))

pub invariant_of-self-2 : goal.invariant_of-self-2
invariant_of-self-2 c =
    let es = c.self.inside.wants.entries in (
      subst IsKeyed (sym (added c)) (keyed_push es _ _ c.self.invariant.0 refl),
      c.in_ok-insert.ensures.unique,
      subst NoneFree (sym (absent c)) (held_noted c.args.s c.args.obj c.args.hold (values_of es) (held_free c.args.hold c.requires) c.self.invariant.2),
    )

pub returns-clause-ok : goal.returns-clause-ok
returns-clause-ok c = absent c ∙ ap (noted c.args.s c.args.obj c.args.hold) c.self.view_is
