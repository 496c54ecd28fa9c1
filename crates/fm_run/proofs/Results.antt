-- Several facts of one result.
use Rattle.std.specs.Prelude.{Result, Ok, Err, IfOk, OnErr, OnOk}

pub on_ok_both : {T E : Type 0} {A B C D : Type 0} (r : Result T E) → OnOk r A → OnOk r B → OnOk r C → (A → B → C → D) → OnOk r D
on_ok_both (Ok x) a b c f = f a b c
on_ok_both (Err e) a b c f = tt

pub if_ok_both : {T E : Type 0} {A B : Type 0} {C D : T → Type 0} (r : Result T E) → OnOk r A → OnOk r B → IfOk r C → ((x : T) → A → B → C x → D x) → IfOk r D
if_ok_both (Ok x) a b c f = f x a b c
if_ok_both (Err e) a b c f = tt

pub on_ok_one : {T E : Type 0} {A B : Type 0} (r : Result T E) → OnOk r A → (A → B) → OnOk r B
on_ok_one (Ok x) a f = f a
on_ok_one (Err e) a f = tt

pub on_ok_two : {T E : Type 0} {A B D : Type 0} (r : Result T E) → OnOk r A → OnOk r B → (A → B → D) → OnOk r D
on_ok_two (Ok x) a b f = f a b
on_ok_two (Err e) a b f = tt

pub if_ok_three : {T E : Type 0} {A : Type 0} {B C D : T → Type 0} (r : Result T E) → OnOk r A → IfOk r B → IfOk r C → ((x : T) → A → B x → C x → D x) → IfOk r D
if_ok_three (Ok x) a b c f = f x a b c
if_ok_three (Err e) a b c f = tt

pub on_ok_four : {T E : Type 0} {A B C D F : Type 0} (r : Result T E) → OnOk r A → OnOk r B → OnOk r C → OnOk r D → (A → B → C → D → F) → OnOk r F
on_ok_four (Ok x) a b c d f = f a b c d
on_ok_four (Err e) a b c d f = tt

pub on_ok_if : {T E : Type 0} {A : Type 0} {B C : T → Type 0} (r : Result T E) → OnOk r A → IfOk r B → ((x : T) → A → B x → C x) → IfOk r C
on_ok_if (Ok x) a b f = f x a b
on_ok_if (Err e) a b f = tt

pub on_ok_seven : {T E : Type 0} {A B C D F G H I : Type 0} (r : Result T E) → OnOk r A → OnOk r B → OnOk r C → OnOk r D → OnOk r F → OnOk r G → OnOk r H → (A → B → C → D → F → G → H → I) → OnOk r I
on_ok_seven (Ok x) a b c d f g h i = i a b c d f g h
on_ok_seven (Err e) a b c d f g h i = tt

pub on_ok_six : {T E : Type 0} {A B C D F G H : Type 0} (r : Result T E) → OnOk r A → OnOk r B → OnOk r C → OnOk r D → OnOk r F → OnOk r G → (A → B → C → D → F → G → H) → OnOk r H
on_ok_six (Ok x) a b c d f g h = h a b c d f g
on_ok_six (Err e) a b c d f g h = tt

pub if_ok_all : {T E : Type 0} {A B C D : T → Type 0} (r : Result T E) → IfOk r A → IfOk r B → IfOk r C → ((x : T) → A x → B x → C x → D x) → IfOk r D
if_ok_all (Ok x) a b c f = f x a b c
if_ok_all (Err e) a b c f = tt

pub on_err_one : {T E : Type 0} {A B : Type 0} (r : Result T E) → OnErr r A → (A → B) → OnErr r B
on_err_one (Ok x) a f = tt
on_err_one (Err e) a f = f a

pub on_err : {T E P : Type 0} (r : Result T E) → P → OnErr r P
on_err (Ok x) p = tt
on_err (Err e) p = p
