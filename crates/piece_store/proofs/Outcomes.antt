-- What holds after each outcome of a call.
use Rattle.std.specs.Prelude.{Result, Ok, Err, OnOk, OnErr, Option, None, Some, IfSome, IfNone}

pub on_ok : {X E : Type 0} (P Q : Type 0) (r : Result X E) → (P → Q) → OnOk r P → OnOk r Q
on_ok P Q (Ok x) f p = f p
on_ok P Q (Err e) f p = tt

pub on_err : {X E : Type 0} (P Q : Type 0) (r : Result X E) → (P → Q) → OnErr r P → OnErr r Q
on_err P Q (Ok x) f p = tt
on_err P Q (Err e) f p = f p

-- what holds anyway
pub anyway : {X E : Type 0} (P : Type 0) (r : Result X E) → P → OnErr r P
anyway P (Ok x) p = tt
anyway P (Err e) p = p

pub if_some : {X : Type 0} (P Q : X → Type 0) (o : Option X) → ((x : X) → P x → Q x) → IfSome o P → IfSome o Q
if_some P Q None f p = tt
if_some P Q (Some x) f p = f x p

pub if_none : {X : Type 0} (P Q : Type 0) (o : Option X) → (P → Q) → IfNone o P → IfNone o Q
if_none P Q None f p = f p
if_none P Q (Some x) f p = tt
