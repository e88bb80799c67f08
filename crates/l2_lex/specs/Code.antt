-- The state that the code keeps, as definitions speak of it.
use Rattle.std.specs.Prelude.{ℕ, ◌≤◌, ◌-◌, ◌^◌, Option, map, length}
use Rattle.l2_syntax.specs.declared.refusal.Refusal.{Refusal}
use Rattle.l2_syntax.specs.declared.token.Tokens.{Tokens}
use Rattle.l2_lex.specs.declared.state.Lexer.{Lexer}
use Rattle.l2_lex.specs.declared.state.Attribute.{Attribute}
use Rattle.l2_lex.specs.declared.state.Attribute.TheVariants as attribute
use Rattle.l2_lex.specs.States.{State}
use Rattle.l2_lex.specs.Lexing.{Turn, Lexed}

abbrev pub state_of : Lexer → State
state_of l = record {
  tokens = l.tokens.items;
  before = l.before;
  names = map (λ k. k.now) l.known.names.keys;
  roles = l.known.roles.items;
  typedef = l.typedef;
  declared = l.declared.items;
  attribute = l.attribute;
  line = l.line;
  passed = l.passed;
}

abbrev pub turn_of : Lexer → Option Refusal → Turn
turn_of l stop = record { state = state_of l; stop = stop }

abbrev pub lexed_of : Tokens → Lexed
lexed_of r = record { list = r.list; names = map (λ n. n.bytes) r.names; stop = r.stop }

abbrev pub depth_of : Attribute → ℕ
depth_of (attribute.Inside n) = n
depth_of a = 0

-- the counts of a state are at most n
pub record Bounded (n : ℕ) (s : State) : Type 0 where
  pub names : length s.names ≤ n
  pub braces : s.typedef.braces ≤ n
  pub brackets : s.typedef.brackets ≤ n
  pub depth : depth_of s.attribute ≤ n

abbrev pub many : ℕ
many = 2 ^ 31 - 1
