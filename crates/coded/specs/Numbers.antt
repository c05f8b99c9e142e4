-- A coded answer of this crate as the meaning has it (`Reply.Coded`).
use Rattle.meaning.specs.Reply.{Coded, code}
use Rattle.coded.specs.declared.Coded.{Coded as Given}

abbrev pub numbers : Given → Coded
numbers c = code c.number c.a c.b
