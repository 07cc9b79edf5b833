-- Words that make up some call.
use Rattle.std.specs.Prelude.{[], ◌∷◌, codes, refl}
use Rattle.ec_plain.specs.declared.call.Call.TheVariants as call
use Rattle.ec_words.specs.declared.name.Verb.TheVariants as verb
use Rattle.ec_words.specs.Rows.{Begins}
use Rattle.ec_words.specs.Calls.{SpellsCall}

-- some words make up a call
pub a_call : Begins SpellsCall []
a_call = (codes "sync" ∷ [], (call.Sync, (verb.Sync, (refl, (tt, (refl, refl))))))
