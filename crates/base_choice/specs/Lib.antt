-- A choice by a test; rows in order.
pub mod Choice
pub mod Rows
