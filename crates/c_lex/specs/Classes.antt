-- The classes of lexemes, by the numbers that they have in the automaton's table.
use Rattle.std.specs.Prelude.{◌≡◌, ℕ, ◌==◌, if◌then◌else◌, refl}
use Rattle.c_lex.specs.declared.progress.Class.{Class}
use Rattle.c_lex.specs.declared.progress.Class.TheVariants.{Name, Number, Str, Char, Op, Meta, MetaDots, Directive, Blank, LineEnd, Comment, LongComment, OpenComment}

abbrev pub number_of : Class → ℕ
number_of Name = 0
number_of Number = 1
number_of Str = 2
number_of Char = 3
number_of Op = 4
number_of Meta = 5
number_of MetaDots = 6
number_of Directive = 7
number_of Blank = 8
number_of LineEnd = 9
number_of Comment = 10
number_of LongComment = 11
number_of OpenComment = 12

abbrev pub class_of : ℕ → Class
class_of n =
    if n == 0 then Name else (if n == 1 then Number else (if n == 2 then Str else (if n == 3 then Char else (if n == 4 then Op else (if n == 5 then Meta else (if n == 6 then MetaDots
    else (if n == 7 then Directive else (if n == 8 then Blank else (if n == 9 then LineEnd else (if n == 10 then Comment else (if n == 11 then LongComment else OpenComment)))))))))))

-- no two classes have one number
pub class_of-number_of : (c : Class) → class_of (number_of c) ≡ c
class_of-number_of Name = refl
class_of-number_of Number = refl
class_of-number_of Str = refl
class_of-number_of Char = refl
class_of-number_of Op = refl
class_of-number_of Meta = refl
class_of-number_of MetaDots = refl
class_of-number_of Directive = refl
class_of-number_of Blank = refl
class_of-number_of LineEnd = refl
class_of-number_of Comment = refl
class_of-number_of LongComment = refl
class_of-number_of OpenComment = refl
