-- Specification, 9 Refusals: the number of each answer. 0 stands for a call that is done.
-- Assumes nothing.
use Rattle.std.specs.Prelude.{Bool, ℕ, Result, Ok, Err, is_ok}
use Rattle.node.specs.declared.Refusal.{Refusal}
use Rattle.node.specs.declared.Refusal.TheVariants as refusal

-- a call is done, or refused
abbrev pub Answer : Type 0
Answer = Result (Unit {0}) Refusal

abbrev pub Done : Answer
Done = Ok tt

abbrev pub BadNames : Answer
BadNames = Err refusal.BadNames

abbrev pub OutOfRange : Answer
OutOfRange = Err refusal.OutOfRange

abbrev pub NoSuchNode : Answer
NoSuchNode = Err refusal.NoSuchNode

abbrev pub WrongPhase : Answer
WrongPhase = Err refusal.WrongPhase

abbrev pub NotLive : Answer
NotLive = Err refusal.NotLive

abbrev pub NotDown : Answer
NotDown = Err refusal.NotDown

abbrev pub TooManyPackets : Answer
TooManyPackets = Err refusal.TooManyPackets

abbrev pub NoSuchPacket : Answer
NoSuchPacket = Err refusal.NoSuchPacket

abbrev pub OwnPacket : Answer
OwnPacket = Err refusal.OwnPacket

abbrev pub WrongSender : Answer
WrongSender = Err refusal.WrongSender

abbrev pub WrongLength : Answer
WrongLength = Err refusal.WrongLength

abbrev pub BadContents : Answer
BadContents = Err refusal.BadContents

abbrev pub TwoRequests : Answer
TwoRequests = Err refusal.TwoRequests

abbrev pub NotANode : Answer
NotANode = Err refusal.NotANode

abbrev pub NoRoom : Answer
NoRoom = Err refusal.NoRoom

abbrev pub BadWindows : Answer
BadWindows = Err refusal.BadWindows

abbrev pub Crowded : Answer
Crowded = Err refusal.Crowded

abbrev pub NotGiven : Answer
NotGiven = Err refusal.NotGiven

-- the number of a refusal
abbrev pub refusal_number : Refusal → ℕ
refusal_number refusal.BadNames = 1
refusal_number refusal.OutOfRange = 2
refusal_number refusal.NoSuchNode = 3
refusal_number refusal.WrongPhase = 4
refusal_number refusal.NotLive = 5
refusal_number refusal.NotDown = 6
refusal_number refusal.TooManyPackets = 7
refusal_number refusal.NoSuchPacket = 8
refusal_number refusal.OwnPacket = 9
refusal_number refusal.WrongSender = 10
refusal_number refusal.WrongLength = 11
refusal_number refusal.BadContents = 12
refusal_number refusal.TwoRequests = 13
refusal_number refusal.NotANode = 14
refusal_number refusal.NoRoom = 15
refusal_number refusal.BadWindows = 16
refusal_number refusal.Crowded = 17
refusal_number refusal.NotGiven = 18

-- the number of an answer
abbrev pub number : Answer → ℕ
number (Ok _) = 0
number (Err r) = refusal_number r

-- whether a call was accepted
abbrev pub is_done : Answer → Bool
is_done a = is_ok a

-- what a call gives, where it was accepted; else its refusal
abbrev pub answered : {A : Type 0} → Answer → A → Result A Refusal
answered (Ok _) x = Ok x
answered (Err r) x = Err r
