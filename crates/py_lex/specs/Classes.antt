-- The classes of lexemes, by the numbers that they have in the automaton's table.
use Rattle.std.specs.Prelude.{◌≡◌, ℕ, ◌==◌, if◌then◌else◌, refl}
use Rattle.py_lex.specs.declared.class.Class.{Class}
use Rattle.py_lex.specs.declared.class.Class.TheVariants.{Name, Number, Str, Mark, Opening, Closing, Meta, MetaDots, Blank, LineEnd, Splice, Comment, FShort, FLong, Plain, FieldStart, FieldEnd, Colon, Conversion}

abbrev pub number_of : Class → ℕ
number_of Name = 0
number_of Number = 1
number_of Str = 2
number_of Mark = 3
number_of Opening = 4
number_of Closing = 5
number_of Meta = 6
number_of MetaDots = 7
number_of Blank = 8
number_of LineEnd = 9
number_of Splice = 10
number_of Comment = 11
number_of FShort = 12
number_of FLong = 13
number_of Plain = 14
number_of FieldStart = 15
number_of FieldEnd = 16
number_of Colon = 17
number_of Conversion = 18

abbrev pub class_of : ℕ → Class
class_of n =
    if n == 0 then Name else (if n == 1 then Number else (if n == 2 then Str else (if n == 3 then Mark else (if n == 4 then Opening else (if n == 5 then Closing else (if n == 6 then Meta else (if n == 7 then MetaDots else (if n == 8 then Blank else (if n == 9 then LineEnd else (if n == 10 then Splice else (if n == 11 then Comment else (if n == 12 then FShort else (if n == 13 then FLong else (if n == 14 then Plain else (if n == 15 then FieldStart else (if n == 16 then FieldEnd else (if n == 17 then Colon else Conversion)))))))))))))))))

-- no two classes have one number
pub class_of-number_of : (c : Class) → class_of (number_of c) ≡ c
class_of-number_of Name = refl
class_of-number_of Number = refl
class_of-number_of Str = refl
class_of-number_of Mark = refl
class_of-number_of Opening = refl
class_of-number_of Closing = refl
class_of-number_of Meta = refl
class_of-number_of MetaDots = refl
class_of-number_of Blank = refl
class_of-number_of LineEnd = refl
class_of-number_of Splice = refl
class_of-number_of Comment = refl
class_of-number_of FShort = refl
class_of-number_of FLong = refl
class_of-number_of Plain = refl
class_of-number_of FieldStart = refl
class_of-number_of FieldEnd = refl
class_of-number_of Colon = refl
class_of-number_of Conversion = refl
