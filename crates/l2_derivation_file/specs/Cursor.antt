-- What is left of a line's words.
use Rattle.std.specs.Prelude.{cond, List, []}
use Rattle.l2_cert.specs.Words.{Word, words_of}
use Rattle.l2_derivation_file.specs.declared.words.Words.{Words}

abbrev pub left : Words → List Word
left w = cond w.more (words_of w.rest.now) []
