-- Texts that are written piece by piece.
use Rattle.std.proofs.Common.{◌≡◌, ℕ, List, [], ◌∷◌, ◌++◌, Result, Ok, Err, OnOk, codes, refl, sym, ap, ◌∙◌, append_assoc, append-nil}
use Rattle.std.specs.List.{flat_map}
use Rattle.ec_plain.specs.Walk.{Path}
use Rattle.ec_outs.specs.Outs.{Reply}
use Rattle.ec_words.specs.OfText.Calls.{call_text}
use Rattle.ec_mount_table.specs.Shown.{all_told_text, line_text, part_text, row_text, rows_text, seen_text, sync_text, syncs_text, told_text}
use Rattle.ec_mount_table.specs.declared.script.Row.{Row}
use Rattle.ec_mount_table.specs.declared.seen.Seen.{Seen}

-- one more piece was put
pub text_step : (text more piece now rest whole : List ℕ) → more ≡ text ++ piece → now ≡ piece ++ rest → text ++ now ≡ whole → more ++ rest ≡ whole
text_step text more piece now rest whole e n h = ap (λ l. l ++ rest) e ∙ (append_assoc text piece rest ∙ (ap (λ l. text ++ l) (sym n) ∙ h))

pub syncs_next : (front : List ℕ) (table rest : List Path) (path : Path) (replies more : List Reply) (reply : Reply) → table ≡ path ∷ rest → replies ≡ reply ∷ more → syncs_text front table replies ≡ sync_text front path reply ++ syncs_text front rest more
syncs_next front table rest path replies more reply e f = ap (syncs_text front table) f ∙ ap (λ l. syncs_text front l (reply ∷ more)) e

pub rows_next : (table : List Path) (rows rest : List Row) (row : Row) (mets more : List Seen) (met : Seen) → rows ≡ row ∷ rest → mets ≡ met ∷ more → rows_text table rows mets ≡ seen_text table row met ++ rows_text table rest more
rows_next table rows rest row mets more met e f = ap (rows_text table rows) f ∙ ap (λ l. rows_text table l (met ∷ more)) e

pub told_next : (table rest : List Path) (path : Path) (told more : List (List (List ℕ))) (lists : List (List ℕ)) → table ≡ path ∷ rest → told ≡ lists ∷ more → all_told_text table told ≡ flat_map (told_text path) lists ++ all_told_text rest more
told_next table rest path told more lists e f = ap (all_told_text table) f ∙ ap (λ l. all_told_text l (lists ∷ more)) e

pub on_ok : {A E : Type 0} (r : Result A E) (P Q : Type 0) → (P → Q) → OnOk r P → OnOk r Q
on_ok (Ok x) P Q f p = f p
on_ok (Err e) P Q f p = tt

behind : (old piece text more : List ℕ) → text ≡ old ++ piece → text ++ more ≡ old ++ (piece ++ more)
behind old piece text more e = ap (λ l. l ++ more) e ∙ append_assoc old piece more

-- a row's answer behind what stands before it
pub seen_piece : (row : Row) (old mid new why : List ℕ) → new ≡ mid ++ why ++ 10 ∷ [] → mid ≡ old ++ line_text row ++ call_text row.call ++ codes " -> " → new ≡ old ++ row_text row why
seen_piece row old mid new why e f =
    let line = line_text row in
    let call = call_text row.call in
    let arrow = codes " -> " in
    let front = behind old (line ++ call) (old ++ line ++ call) arrow (behind old line (old ++ line) call refl) in
    e ∙ behind old (line ++ call ++ arrow ++ why) (mid ++ why) (10 ∷ []) (behind old (line ++ call ++ arrow) mid why (f ∙ front))

-- no row is left
pub part_none : (text : List ℕ) (table : List Path) (rows : List Row) (replies : List Reply) → rows ≡ [] → text ≡ text ++ part_text table rows replies
part_none text table rows replies none = sym (append-nil text) ∙ ap (λ l. text ++ part_text table l replies) (sym none)

-- three pieces were put, one behind the other
pub whole_pieces : (one two three : List ℕ) (none first second third : List ℕ) → none ≡ [] → first ≡ none ++ one → second ≡ first ++ two → third ≡ second ++ three → third ≡ one ++ two ++ three
whole_pieces one two three none first second third e a b c = c ∙ ap (λ l. l ++ three) (b ∙ ap (λ l. l ++ two) (a ∙ ap (λ l. l ++ one) e))

-- and then a last one
pub came_pieces : (one two three last : List ℕ) (none first second third text : List ℕ) → none ≡ [] → first ≡ none ++ one → second ≡ first ++ two → third ≡ second ++ three → text ≡ third ++ last → text ≡ one ++ two ++ three ++ last
came_pieces one two three last none first second third text e a b c d = d ∙ ap (λ l. l ++ last) (whole_pieces one two three none first second third e a b c)
