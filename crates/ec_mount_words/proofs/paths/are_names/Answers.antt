use Rattle.std.proofs.Common.{◌≡◌, ◌∙◌, ℕ, ◌+◌, List, [], Option, Bor, ap, sym, arith}
use Rattle.std.specs.List.{slice_split}
use Rattle.std.specs.Option.{option_map_or}
use Rattle.ec_base.specs.Names.{is_slash, names_fault}
use Rattle.ec_mount_words.proofs.Names.{named, behind, deep, not_none}
use Rattle.ec_mount_words.proofs.paths.are_names.Goals as goal

-- the parts behind the first
abbrev parts_of : Option (Bor (List ℕ)) → List (List ℕ)
parts_of later = option_map_or (λ (bytes : Bor (List ℕ)). slice_split is_slash bytes.now) later []

pub returns-then-not-is_name : goal.returns-then-not-is_name
returns-then-not-is_name c =
    let before = c.loop-before._before in
    λ none. c.if-not-is_name.ensures (named before c.cut.result.0.now (parts_of c.cut.result.1) c.loop-before-test.true (sym (c.loop-before.invariant ∙ ap (λ (parts : List (List ℕ)). names_fault before parts) c.cut.ensures) ∙ none)).0

pub returns-in_default : goal.returns-in_default
returns-in_default c =
    let before = c.loop-before._before in
    c.loop-before.invariant ∙ ap (λ (parts : List (List ℕ)). names_fault before parts) c.cut.ensures ∙ behind before c.cut.result.0.now (parts_of c.cut.result.1) c.loop-before-test.true c.if-not-is_name.ensures
    ∙ ap (λ (later : Option (Bor (List ℕ))). names_fault (before + 1) (parts_of later)) c.in_default.is

pub loop-before-preserved : goal.loop-before-preserved
loop-before-preserved c =
    let before = c.loop-before._before in
    c.loop-before.invariant ∙ ap (λ (parts : List (List ℕ)). names_fault before parts) c.cut.ensures ∙ behind before c.cut.result.0.now (parts_of c.cut.result.1) c.loop-before-test.true c.if-not-is_name.ensures
    ∙ ap (λ (later : Option (Bor (List ℕ))). names_fault (before + 1) (parts_of later)) c.in-Some.is

pub returns : goal.returns
returns c =
    let all : c.loop-before._before ≡ 16 = omega arith in
    λ none. not_none (sym (c.loop-before.invariant ∙ ap (λ (n : ℕ). names_fault n (slice_split is_slash c.loop-before.rest.now)) all ∙ deep c.loop-before.rest.now) ∙ none)
