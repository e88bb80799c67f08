-- How a rule is printed.
use Rattle.std.specs.Prelude.{ℕ, List, codes}
use Rattle.l2_syntax.specs.declared.refusal.Rule.{Rule}
use Rattle.l2_syntax.specs.declared.refusal.Rule.TheVariants.{Byte, Comment, Directive, Literal, BadString, Keyword, Nesting, Syntax, UnknownName, Redeclared, BadType, Lvalue, Call, Recursion, Constant, Initialiser, Label, SwitchJump, Incomplete, Cells, MainForm, NoMain, NotBuilt}

abbrev pub rule_text : Rule → List ℕ
rule_text Byte = codes "byte"
rule_text Comment = codes "comment"
rule_text Directive = codes "directive"
rule_text Literal = codes "literal"
rule_text BadString = codes "string"
rule_text Keyword = codes "keyword"
rule_text Nesting = codes "nesting"
rule_text Syntax = codes "syntax"
rule_text UnknownName = codes "unknown-name"
rule_text Redeclared = codes "redeclared"
rule_text BadType = codes "type"
rule_text Lvalue = codes "lvalue"
rule_text Call = codes "call"
rule_text Recursion = codes "recursion"
rule_text Constant = codes "constant"
rule_text Initialiser = codes "initialiser"
rule_text Label = codes "label"
rule_text SwitchJump = codes "switch-jump"
rule_text Incomplete = codes "incomplete"
rule_text Cells = codes "cells"
rule_text MainForm = codes "main-form"
rule_text NoMain = codes "no-main"
rule_text NotBuilt = codes "not-built"
