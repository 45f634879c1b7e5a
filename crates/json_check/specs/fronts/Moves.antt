-- Steps of `first_bad`, which no promise cites: what may stand next behind a front of tokens, and what a token does there.
use Rattle.std.specs.Prelude.{◌≡◌, ℕ, ◌+◌, ◌-◌, leb, cond, Bool, true, false, List, [], ◌∷◌, reverse, Option, Some, None}
use Rattle.json_check.specs.declared.nest.Nest.{Nest}
use Rattle.json_check.specs.declared.nest.Container.{Container}
use Rattle.json_check.specs.declared.nest.Container.TheVariants.{Array, Object}
use Rattle.json_tree.specs.declared.token.Word.{Word}
use Rattle.json_tree.specs.declared.token.Word.TheVariants as words
use Rattle.json_check.specs.declared.nest.Next.{Next}
use Rattle.json_check.specs.declared.nest.Next.TheVariants.{Value, ItemOrEnd, NameOrEnd, Name, Colon, CommaOrEnd}
use Rattle.json_check.specs.declared.nest.Move.{Move}
use Rattle.json_check.specs.declared.nest.Move.TheVariants.{Stop, Go, Open, Close}

-- what may stand next, the containers that are open, from the inside out, and how deep in the tree a value here stands, below the root
pub record Standing : Type 0 where
  pub next : Next
  pub around : List Container
  pub depth : ℕ

abbrev pub value_move : Word → Move
value_move words.Str = Go CommaOrEnd
value_move words.Number = Go CommaOrEnd
value_move words.Const = Go CommaOrEnd
value_move words.LeftBracket = Open Array
value_move words.LeftBrace = Open Object
value_move w = Stop

abbrev pub name_move : Word → Move
name_move words.Str = Go Colon
name_move w = Stop

-- a value or a name that would stand too deep is none
abbrev pub within : ℕ → Move → Move
within depth move = cond (leb depth 499) move Stop

abbrev pub item_move : ℕ → Word → Move
item_move depth words.RightBracket = Close
item_move depth w = within depth (value_move w)

abbrev pub member_move : ℕ → Word → Move
member_move depth words.RightBrace = Close
member_move depth w = within depth (name_move w)

abbrev pub colon_move : Word → Move
colon_move words.Colon = Go Value
colon_move w = Stop

abbrev pub array_move : Word → Move
array_move words.Comma = Go Value
array_move words.RightBracket = Close
array_move w = Stop

abbrev pub object_move : Word → Move
object_move words.Comma = Go Name
object_move words.RightBrace = Close
object_move w = Stop

abbrev pub comma_move : Option Container → Word → Move
comma_move None w = Stop
comma_move (Some Array) w = array_move w
comma_move (Some Object) w = object_move w

-- what a token does
abbrev pub move_of : Next → Option Container → ℕ → Word → Move
move_of Value inside depth w = within depth (value_move w)
move_of ItemOrEnd inside depth w = item_move depth w
move_of NameOrEnd inside depth w = member_move depth w
move_of Name inside depth w = within depth (name_move w)
move_of Colon inside depth w = colon_move w
move_of CommaOrEnd inside depth w = comma_move inside w

abbrev pub innermost : List Container → Option Container
innermost [] = None
innermost (c ∷ cs) = Some c

-- what stands in an array is one deeper than it is, and what stands in a member of an object two
abbrev pub steps_in : Container → ℕ
steps_in Array = 1
steps_in Object = 2

abbrev pub first_in : Container → Next
first_in Array = ItemOrEnd
first_in Object = NameOrEnd

abbrev pub opened : Standing → Container → Standing
opened s c = record { next = first_in c; around = c ∷ s.around; depth = s.depth + steps_in c }

abbrev pub closed : Standing → List Container → Option Standing
closed s [] = None
closed s (c ∷ cs) = Some (record { next = CommaOrEnd; around = cs; depth = s.depth - steps_in c })

abbrev pub moved : Standing → Move → Option Standing
moved s Stop = None
moved s (Go next) = Some (record { next = next; around = s.around; depth = s.depth })
moved s (Open c) = Some (opened s c)
moved s Close = closed s s.around

-- where one stands behind a token
abbrev pub behind_token : Standing → Word → Option Standing
behind_token s w = moved s (move_of s.next (innermost s.around) s.depth w)

-- before the first token
abbrev pub at_first : Standing
at_first = record { next = Value; around = []; depth = 1 }

-- a value stands before, and no container is open
abbrev pub is_over : Standing → Bool
is_over s = elim s.next [ CommaOrEnd ↦ elim s.around [ [] ↦ true | c ∷ cs ↦ false ] | n ↦ false ]

-- a nest keeps what is open from the outside in
abbrev pub standing : Nest → Standing
standing n = record { next = n.next; around = reverse n.around; depth = n.depth }

-- whether there is a next one, and then that it is this one
abbrev pub Takes : {X : Type 0} → Bool → Option X → X → Type 0
Takes false next now = next ≡ None
Takes true next now = next ≡ Some now
